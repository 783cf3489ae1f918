-- A request as JSON (RFC 8259), its members in the order of the fields of a list. UUIDs as in RFC 9562, section 4.
-- Profile.
use Rattle.std.specs.Prelude.{ℕ, ℤ, List, ◌++◌, codes}
use Rattle.std.specs.Fmt.{signed_decimal}
use Rattle.hex.specs.Hex.{encode_lower}
use Rattle.serde_json.specs.Data.{string}
use Rattle.serde_json.specs.Written.{compact_text}
use Rattle.sheet_types.specs.Texts.{mapping_word, mode_word, uuid_text}
use Rattle.sheet_types.specs.declared.command.Command.{Command}
use Rattle.sheet_types.specs.declared.command.Command.TheVariants.{Add, Delete, Link, Unlink, Split, Merge}
use Rattle.sheet_types.specs.declared.command.Content.{Content}
use Rattle.sheet_types.specs.declared.command.Content.TheVariants.{Tile, Media, Row}
use Rattle.sheet_types.specs.declared.command.Mapping.{Mapping}
use Rattle.sheet_types.specs.declared.command.Mode.{Mode}
use Rattle.sheet_types.specs.declared.command.Request.{Request}
use Rattle.sheet_types.specs.declared.frame.Rect.{Rect}

-- a text as a JSON string
abbrev pub quoted : List ℕ → List ℕ
quoted text = compact_text (string text)

-- ---- members by what they are of

abbrev pub place_members : ℤ → ℤ → ℤ → List ℕ
place_members zoom column row =
    codes "\"zoom\":" ++ (signed_decimal zoom ++ (codes ",\"column\":" ++ (signed_decimal column
    ++ (codes ",\"row\":" ++ signed_decimal row))))

abbrev pub data_member : List ℕ → List ℕ
data_member bytes = codes "\"data\":\"" ++ (encode_lower bytes ++ codes "\"")

-- of a tile: its kind, its place and its bytes
abbrev pub tile_members : List ℕ → List ℕ → List ℕ
tile_members place bytes = codes "\"kind\":\"tile\"," ++ (place ++ (codes "," ++ bytes))

abbrev pub medium_members : List ℕ → List ℕ → List ℕ
medium_members content_type bytes =
    codes "\"kind\":\"media\",\"text\":" ++ (quoted content_type
    ++ (codes ",\"data\":\"" ++ (encode_lower bytes ++ codes "\"")))

abbrev pub mark_members : ℤ → ℤ → ℤ → List ℕ → List ℕ
mark_members x y code label =
    codes "\"kind\":\"row\",\"x\":" ++ (signed_decimal x ++ (codes ",\"y\":" ++ (signed_decimal y
    ++ (codes ",\"code\":" ++ (signed_decimal code ++ (codes ",\"text\":" ++ quoted label))))))

abbrev pub content_members : Content → List ℕ
content_members (Tile zoom column row bytes) = tile_members (place_members zoom column row) (data_member bytes)
content_members (Media content_type bytes) = medium_members content_type bytes
content_members (Row x y code label) = mark_members x y code label

abbrev pub link_members : Mapping → List ℕ → List ℕ → List ℕ
link_members mapping base other =
    codes "\"identity\":\"" ++ (uuid_text base ++ (codes "\",\"other\":\"" ++ (uuid_text other
    ++ (codes "\",\"kind\":\"" ++ (mapping_word mapping ++ codes "\"")))))

abbrev pub area_members : Rect → List ℕ
area_members r =
    place_members r.zoom r.column r.row ++ (codes ",\"last_column\":" ++ (signed_decimal r.last_column
    ++ (codes ",\"last_row\":" ++ signed_decimal r.last_row)))

abbrev pub loan_members : List ℕ → Mode → Rect → List ℕ
loan_members child mode rect =
    codes "\"other\":\"" ++ (uuid_text child ++ (codes "\",\"kind\":\""
    ++ (mode_word mode ++ (codes "\"," ++ area_members rect))))

-- of a command, but for its word and the package that it names first
abbrev pub command_members : Command → List ℕ
command_members (Add holder identity content) =
    codes "\"identity\":\"" ++ (uuid_text identity ++ (codes "\"," ++ content_members content))
command_members (Delete holder identity) = codes "\"identity\":\"" ++ (uuid_text identity ++ codes "\"")
command_members (Link holder mapping base other) = link_members mapping base other
command_members (Unlink holder mapping base other) = link_members mapping base other
command_members (Split source child mode rect) = loan_members child mode rect
command_members (Merge child into ticket) =
    codes "\"other\":\"" ++ (uuid_text into ++ (codes "\",\"ticket\":" ++ signed_decimal ticket))

-- ---- members of every request

-- the package that a command names first
abbrev pub package_of : Command → List ℕ
package_of (Add target identity content) = target
package_of (Delete source identity) = source
package_of (Link target mapping base other) = target
package_of (Unlink source mapping base other) = source
package_of (Split source child mode rect) = source
package_of (Merge child into ticket) = child

abbrev pub command_word : Command → List ℕ
command_word (Add target identity content) = codes "add"
command_word (Delete source identity) = codes "delete"
command_word (Link target mapping base other) = codes "link"
command_word (Unlink source mapping base other) = codes "unlink"
command_word (Split source child mode rect) = codes "split"
command_word (Merge child into ticket) = codes "merge"

abbrev pub front_members : Request → List ℕ
front_members q =
    codes "\"request\":\"" ++ (uuid_text q.id ++ (codes "\",\"at\":" ++ (quoted q.at ++ (codes ",\"command\":\""
    ++ (command_word q.command ++ (codes "\",\"package\":\"" ++ (uuid_text (package_of q.command) ++ codes "\"")))))))

-- ---- the whole

abbrev pub request_text : Request → List ℕ
request_text q = codes "{" ++ (front_members q ++ (codes "," ++ (command_members q.command ++ codes "}")))
