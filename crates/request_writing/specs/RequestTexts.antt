-- Request lists as texts: a record for each request, as CSV (RFC 4180) in the default spelling of the crate `csv`:
-- records end with LF. The columns are those that `request_csv` reads.
use Rattle.std.specs.Prelude.{◌≡◌, ℕ, List, [], ◌∷◌, ◌++◌, codes, false, flat_map}
use Rattle.std.specs.Fmt.{signed_decimal}
use Rattle.hex.specs.Hex.{encode_lower}
use Rattle.csv.specs.Writing.{default_writer, fields_written, has_written, row_text, writer_setup}
use Rattle.csv.specs.declared.writer.Writer.{Writer}
use Rattle.sheet_types.specs.Texts.{mapping_word, mode_word, uuid_text}
use Rattle.sheet_types.specs.declared.command.Command.{Command}
use Rattle.sheet_types.specs.declared.command.Command.TheVariants.{Add, Delete, Link, Unlink, Split, Merge}
use Rattle.sheet_types.specs.declared.command.Content.{Content}
use Rattle.sheet_types.specs.declared.command.Content.TheVariants.{Tile, Media, Row}
use Rattle.sheet_types.specs.declared.command.Request.{Request}
use Rattle.request_csv.specs.Requests.{header}

-- the fields of an added item from the kind on
abbrev pub content_fields : Content → List (List ℕ)
content_fields (Tile zoom column row bytes) = codes "tile" ∷ signed_decimal zoom ∷ signed_decimal column
    ∷ signed_decimal row ∷ [] ∷ [] ∷ [] ∷ [] ∷ [] ∷ [] ∷ [] ∷ encode_lower bytes ∷ []
content_fields (Media content_type bytes) = codes "media" ∷ [] ∷ [] ∷ [] ∷ [] ∷ [] ∷ [] ∷ [] ∷ []
    ∷ [] ∷ content_type
    ∷ encode_lower bytes ∷ []
content_fields (Row x y code label) = codes "row" ∷ [] ∷ [] ∷ [] ∷ [] ∷ [] ∷ signed_decimal x
    ∷ signed_decimal y
    ∷ signed_decimal code ∷ [] ∷ label ∷ [] ∷ []

-- the fields of a command
abbrev pub command_fields : Command → List (List ℕ)
command_fields (Add p identity content) = codes "add" ∷ uuid_text p ∷ uuid_text identity ∷ []
    ∷ content_fields content
command_fields (Delete p identity) = codes "delete" ∷ uuid_text p ∷ uuid_text identity ∷ [] ∷ [] ∷ [] ∷ []
    ∷ [] ∷ []
    ∷ [] ∷ [] ∷ [] ∷ [] ∷ [] ∷ [] ∷ [] ∷ []
command_fields (Link p mapping base other) = codes "link" ∷ uuid_text p ∷ uuid_text base ∷ uuid_text other
    ∷ mapping_word mapping ∷ [] ∷ [] ∷ [] ∷ [] ∷ [] ∷ [] ∷ [] ∷ [] ∷ [] ∷ [] ∷ [] ∷ []
command_fields (Unlink p mapping base other) = codes "unlink" ∷ uuid_text p ∷ uuid_text base ∷ uuid_text other
    ∷ mapping_word mapping ∷ [] ∷ [] ∷ [] ∷ [] ∷ [] ∷ [] ∷ [] ∷ [] ∷ [] ∷ [] ∷ [] ∷ []
command_fields (Split p child mode rect) = codes "split" ∷ uuid_text p ∷ [] ∷ uuid_text child ∷ mode_word mode
    ∷ signed_decimal rect.zoom ∷ signed_decimal rect.column ∷ signed_decimal rect.row
    ∷ signed_decimal rect.last_column ∷ signed_decimal rect.last_row ∷ [] ∷ [] ∷ [] ∷ [] ∷ [] ∷ []
    ∷ []
command_fields (Merge child into ticket) = codes "merge" ∷ uuid_text child ∷ [] ∷ uuid_text into ∷ [] ∷ []
    ∷ [] ∷ []
    ∷ [] ∷ [] ∷ [] ∷ [] ∷ [] ∷ signed_decimal ticket ∷ [] ∷ [] ∷ []

-- the fields of a request, in the order of the columns
abbrev pub request_fields : Request → List (List ℕ)
request_fields r = uuid_text r.id ∷ r.at ∷ command_fields r.command

-- records, one after the other
abbrev pub records_text : List Request → List ℕ
records_text = flat_map (λ r. row_text default_writer (request_fields r))

-- the names of the columns, and the requests
abbrev pub list_text : List Request → List ℕ
list_text requests = row_text default_writer header ++ records_text requests

-- a writer with the crate's defaults that stands between two records
abbrev pub IsBetween : {W : Type 0} → Writer W → Type 0
IsBetween w = (writer_setup w ≡ default_writer) × (fields_written w ≡ 0) × (has_written w ≡ false)
