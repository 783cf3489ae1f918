-- Which record of a list is which request (profile, over RFC 9562 for UUIDs).
use Rattle.std.specs.Prelude.{◌≡◌, ℕ, ℤ, FitsSigned, All, List, [], ◌∷◌, length, Some, Ok, codes}
use Rattle.std.specs.Int.{w64}
use Rattle.std.specs.Option.{option_and_then}
use Rattle.std.specs.Fmt.{signed_decimal}
use Rattle.uuid.specs.Text.{parsed_hyphenated}
use Rattle.hex.specs.Hex.{decode_of}
use Rattle.csv.specs.Records.{field_at}
use Rattle.sheet_types.specs.Texts.{kind_of, kind_word, mapping_word, mode_word}
use Rattle.sheet_types.specs.Step.{relation}
use Rattle.sheet_types.specs.declared.command.Content.{Content}
use Rattle.sheet_types.specs.declared.command.Content.TheVariants.{Tile, Media, Row}
use Rattle.sheet_types.specs.declared.command.Command.{Command}
use Rattle.sheet_types.specs.declared.command.Command.TheVariants.{Add, Delete, Link, Unlink, Split, Merge}
use Rattle.sheet_types.specs.declared.command.Relation.{Relation}
use Rattle.sheet_types.specs.declared.command.Request.{Request}
use Rattle.sheet_types.specs.declared.frame.Rect.{Rect}

-- the names of the columns, in their order
abbrev pub header : List (List ℕ)
header = codes "request" ∷ codes "at" ∷ codes "command" ∷ codes "package" ∷ codes "identity" ∷ codes "other"
    ∷ codes "kind" ∷ codes "zoom" ∷ codes "column"
    ∷ codes "row" ∷ codes "last_column" ∷ codes "last_row" ∷ codes "x" ∷ codes "y" ∷ codes "code"
    ∷ codes "ticket" ∷ codes "text" ∷ codes "data" ∷ []

-- the field of this column is this text
abbrev pub IsTextAt : List (List ℕ) → ℕ → List ℕ → Type 0
IsTextAt fields column text = field_at fields column ≡ Some text

-- it is the hyphenated form of this UUID, digits in either case
abbrev pub IsUuidAt : List (List ℕ) → ℕ → List ℕ → Type 0
IsUuidAt fields column id = option_and_then parsed_hyphenated (field_at fields column) ≡ Some id

-- it is this number in plain decimal, within 64 bits
abbrev pub IsNumberAt : List (List ℕ) → ℕ → ℤ → Type 0
IsNumberAt fields column number = FitsSigned w64 number × IsTextAt fields column (signed_decimal number)

-- it is these bytes in hexadecimal, an even number of digits in either case
pub record IsHexAt (fields : List (List ℕ)) (column : ℕ) (bytes : List ℕ) : Type 0 where
  pub text : List ℕ
  pub there : IsTextAt fields column text
  pub digits : decode_of text ≡ Ok bytes

-- these columns are empty
abbrev pub AreEmpty : List (List ℕ) → List ℕ → Type 0
AreEmpty fields columns = All (λ column. IsTextAt fields column []) columns

-- the fields of a content beside its kind, and that those of other contents are empty
abbrev pub HasContent : List (List ℕ) → Content → Type 0
HasContent fields (Tile zoom column row bytes) = IsNumberAt fields 7 zoom × IsNumberAt fields 8 column
    × IsNumberAt fields 9 row × IsHexAt fields 17 bytes
    × AreEmpty fields (10 ∷ 11 ∷ 12 ∷ 13 ∷ 14 ∷ 16 ∷ [])
HasContent fields (Media content_type bytes) = IsTextAt fields 16 content_type × IsHexAt fields 17 bytes
    × AreEmpty fields (7 ∷ 8 ∷ 9 ∷ 10 ∷ 11 ∷ 12 ∷ 13 ∷ 14 ∷ [])
HasContent fields (Row x y code label) = IsNumberAt fields 12 x × IsNumberAt fields 13 y × IsNumberAt fields 14 code
    × IsTextAt fields 16 label
    × AreEmpty fields (7 ∷ 8 ∷ 9 ∷ 10 ∷ 11 ∷ 17 ∷ [])

-- a record that adds this content
abbrev pub IsContent : List (List ℕ) → Content → Type 0
IsContent fields content = IsTextAt fields 6 (kind_word (kind_of content)) × HasContent fields content

-- the fields of a link and of an unlink alike, and that those which they don't use are empty
abbrev pub NamesLink : List (List ℕ) → List ℕ → Relation → Type 0
NamesLink fields holder link = IsUuidAt fields 3 holder × IsTextAt fields 6 (mapping_word link.mapping)
    × IsUuidAt fields 4 link.base × IsUuidAt fields 5 link.other
    × AreEmpty fields (7 ∷ 8 ∷ 9 ∷ 10 ∷ 11 ∷ 12 ∷ 13 ∷ 14 ∷ 15 ∷ 16 ∷ 17 ∷ [])

-- the fields of a rectangle
abbrev pub HasRect : List (List ℕ) → Rect → Type 0
HasRect fields rect = IsNumberAt fields 7 rect.zoom × IsNumberAt fields 8 rect.column
    × IsNumberAt fields 10 rect.last_column × IsNumberAt fields 9 rect.row × IsNumberAt fields 11 rect.last_row

-- the word of a command
abbrev pub command_word : Command → List ℕ
command_word (Add target identity content) = codes "add"
command_word (Delete source identity) = codes "delete"
command_word (Link target mapping base other) = codes "link"
command_word (Unlink source mapping base other) = codes "unlink"
command_word (Split source child mode rect) = codes "split"
command_word (Merge child into ticket) = codes "merge"

-- the fields of a command beside its word, and that those which it doesn't use are empty
abbrev pub HasCommand : List (List ℕ) → Command → Type 0
HasCommand fields (Add target identity content) = IsUuidAt fields 3 target × IsUuidAt fields 4 identity
    × IsContent fields content
    × AreEmpty fields (5 ∷ 15 ∷ [])
HasCommand fields (Delete source identity) = IsUuidAt fields 3 source × IsUuidAt fields 4 identity
    × AreEmpty fields (5 ∷ 6 ∷ 7 ∷ 8 ∷ 9 ∷ 10 ∷ 11 ∷ 12 ∷ 13 ∷ 14 ∷ 15 ∷ 16 ∷ 17 ∷ [])
HasCommand fields (Link target mapping base other) = NamesLink fields target (relation mapping base other)
HasCommand fields (Unlink source mapping base other) = NamesLink fields source (relation mapping base other)
HasCommand fields (Split source child mode rect) = IsUuidAt fields 3 source × IsUuidAt fields 5 child
    × IsTextAt fields 6 (mode_word mode)
    × HasRect fields rect × AreEmpty fields (4 ∷ 12 ∷ 13 ∷ 14 ∷ 15 ∷ 16 ∷ 17 ∷ [])
HasCommand fields (Merge child into ticket) = IsUuidAt fields 3 child × IsUuidAt fields 5 into
    × IsNumberAt fields 15 ticket
    × AreEmpty fields (4 ∷ 6 ∷ 7 ∷ 8 ∷ 9 ∷ 10 ∷ 11 ∷ 12 ∷ 13 ∷ 14 ∷ 16 ∷ 17 ∷ [])

-- a record that asks for this command
abbrev pub IsCommand : List (List ℕ) → Command → Type 0
IsCommand fields command = IsTextAt fields 2 (command_word command) × HasCommand fields command

-- a record that is this request
pub record IsRequest (fields : List (List ℕ)) (r : Request) : Type 0 where
  pub columns : length fields ≡ 18
  pub id : IsUuidAt fields 0 r.id
  pub at : IsTextAt fields 1 r.at
  pub command : IsCommand fields r.command
