-- Which JSON value is which request (profile, over RFC 9562 for UUIDs).
use Rattle.std.specs.Prelude.{◌≡◌, ℕ, List, [], ◌∷◌, codes}
use Rattle.serde_json.specs.Data.{Data}
use Rattle.sheet_types.specs.Texts.{kind_of, kind_word, mapping_word, mode_word}
use Rattle.sheet_types.specs.declared.command.Content.{Content}
use Rattle.sheet_types.specs.declared.command.Content.TheVariants.{Tile, Media, Row}
use Rattle.sheet_types.specs.declared.command.Command.{Command}
use Rattle.sheet_types.specs.declared.command.Command.TheVariants.{Add, Delete, Link, Unlink, Split, Merge}
use Rattle.sheet_types.specs.declared.command.Mapping.{Mapping}
use Rattle.sheet_types.specs.declared.command.Request.{Request}
use Rattle.sheet_types.specs.declared.frame.Rect.{Rect}
use Rattle.request_json.specs.Members.{HasNoOther, IsHexAt, IsNumberAt, IsTextAt, IsUuidAt, JsonIs}

-- the members of every request, and then those of this one
abbrev pub and_of_all : List (List ℕ) → List (List ℕ)
and_of_all names = codes "request" ∷ codes "at" ∷ codes "command" ∷ codes "package" ∷ names

-- the members of the addition of a content beside those of every request
abbrev pub content_names : Content → List (List ℕ)
content_names (Tile zoom column row bytes) = codes "identity" ∷ codes "kind" ∷ codes "zoom" ∷ codes "column"
    ∷ codes "row" ∷ codes "data" ∷ []
content_names (Media content_type bytes) = codes "identity" ∷ codes "kind" ∷ codes "text" ∷ codes "data" ∷ []
content_names (Row x y code label) = codes "identity" ∷ codes "kind" ∷ codes "x" ∷ codes "y" ∷ codes "code"
    ∷ codes "text" ∷ []

-- the members of a request with this command
abbrev pub member_names : Command → List (List ℕ)
member_names (Add target identity content) = and_of_all (content_names content)
member_names (Delete source identity) = and_of_all (codes "identity" ∷ [])
member_names (Link target mapping base other) = and_of_all (codes "identity" ∷ codes "kind" ∷ codes "other" ∷ [])
member_names (Unlink source mapping base other) = and_of_all
    (codes "identity" ∷ codes "kind" ∷ codes "other" ∷ [])
member_names (Split source child mode rect) = and_of_all (codes "other" ∷ codes "kind" ∷ codes "zoom"
    ∷ codes "column"
    ∷ codes "last_column" ∷ codes "row" ∷ codes "last_row" ∷ [])
member_names (Merge child into ticket) = and_of_all (codes "other" ∷ codes "ticket" ∷ [])

-- what the members say of an added content beside its kind
abbrev pub HasContent : Data → Content → Type 0
HasContent d (Tile zoom column row bytes) = IsNumberAt d (codes "zoom") zoom × IsNumberAt d (codes "column") column
    × IsNumberAt d (codes "row") row × IsHexAt d (codes "data") bytes
HasContent d (Media content_type bytes) = IsTextAt d (codes "text") content_type × IsHexAt d (codes "data") bytes
HasContent d (Row x y code label) = IsNumberAt d (codes "x") x × IsNumberAt d (codes "y") y
    × IsNumberAt d (codes "code") code × IsTextAt d (codes "text") label

-- the members add this content
abbrev pub IsContent : Data → Content → Type 0
IsContent d content = IsTextAt d (codes "kind") (kind_word (kind_of content)) × HasContent d content

-- the members of a link and of an unlink alike
abbrev pub NamesLink : Data → List ℕ → Mapping → List ℕ → List ℕ → Type 0
NamesLink d holder mapping base other = IsUuidAt d (codes "package") holder
    × IsTextAt d (codes "kind") (mapping_word mapping) × IsUuidAt d (codes "identity") base
    × IsUuidAt d (codes "other") other

-- the members of a rectangle
abbrev pub HasRect : Data → Rect → Type 0
HasRect d rect = IsNumberAt d (codes "zoom") rect.zoom × IsNumberAt d (codes "column") rect.column
    × IsNumberAt d (codes "last_column") rect.last_column × IsNumberAt d (codes "row") rect.row
    × IsNumberAt d (codes "last_row") rect.last_row

-- the word of a command
abbrev pub command_word : Command → List ℕ
command_word (Add target identity content) = codes "add"
command_word (Delete source identity) = codes "delete"
command_word (Link target mapping base other) = codes "link"
command_word (Unlink source mapping base other) = codes "unlink"
command_word (Split source child mode rect) = codes "split"
command_word (Merge child into ticket) = codes "merge"

-- what the members say of a command beside its word
abbrev pub HasCommand : Data → Command → Type 0
HasCommand d (Add target identity content) = IsUuidAt d (codes "package") target
    × IsUuidAt d (codes "identity") identity × IsContent d content
HasCommand d (Delete source identity) = IsUuidAt d (codes "package") source × IsUuidAt d (codes "identity") identity
HasCommand d (Link target mapping base other) = NamesLink d target mapping base other
HasCommand d (Unlink source mapping base other) = NamesLink d source mapping base other
HasCommand d (Split source child mode rect) = IsUuidAt d (codes "package") source × IsUuidAt d (codes "other") child
    × IsTextAt d (codes "kind") (mode_word mode) × HasRect d rect
HasCommand d (Merge child into ticket) = IsUuidAt d (codes "package") child × IsUuidAt d (codes "other") into
    × IsNumberAt d (codes "ticket") ticket

-- the members ask for this command
abbrev pub IsCommand : Data → Command → Type 0
IsCommand d command = IsTextAt d (codes "command") (command_word command) × HasCommand d command

-- A value that is this request: an object with exactly the members of its command, each of its form.
pub record IsRequest (d : Data) (r : Request) : Type 0 where
  pub id : IsUuidAt d (codes "request") r.id
  pub at : IsTextAt d (codes "at") r.at
  pub command : IsCommand d r.command
  pub only : HasNoOther d (member_names r.command)

-- a text that is this request
abbrev pub IsRequestText : List ℕ → Request → Type 0
IsRequestText text r = (d : Data) × JsonIs text d × IsRequest d r

-- ---- a law

-- a text is one request at most
abbrev pub IsOneRequest : Type 0
IsOneRequest = (text : List ℕ) (one other : Request) → IsRequestText text one → IsRequestText text other
    → one ≡ other
