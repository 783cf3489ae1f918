-- What is written is read: requests whose values are of their types. Profile.
use Rattle.std.specs.Prelude.{List, FitsSigned}
use Rattle.std.specs.Int.{w64}
use Rattle.std.specs.List.{AllByRecursion}
use Rattle.std.specs.Str.{IsUtf8}
use Rattle.hex.specs.Hex.{IsBytes}
use Rattle.sheet_types.specs.Lines.{IsUuid}
use Rattle.sheet_types.specs.declared.command.Command.{Command}
use Rattle.sheet_types.specs.declared.command.Command.TheVariants.{Add, Delete, Link, Unlink, Split, Merge}
use Rattle.sheet_types.specs.declared.command.Content.{Content}
use Rattle.sheet_types.specs.declared.command.Content.TheVariants.{Tile, Media, Row}
use Rattle.sheet_types.specs.declared.command.Request.{Request}
use Rattle.sheet_types.specs.declared.frame.Rect.{Rect}
use Rattle.request_csv.specs.RequestLists.{IsList}
use Rattle.request_writing.specs.RequestTexts.{list_text}

-- numbers have 64 bits, texts are UTF-8, and data is of bytes
abbrev pub HasContentTypes : Content → Type 0
HasContentTypes (Tile zoom column row bytes) = FitsSigned w64 zoom × FitsSigned w64 column
    × FitsSigned w64 row × IsBytes bytes
HasContentTypes (Media content_type bytes) = IsUtf8 content_type × IsBytes bytes
HasContentTypes (Row x y code label) = FitsSigned w64 x × FitsSigned w64 y × FitsSigned w64 code × IsUtf8 label

abbrev pub HasRectTypes : Rect → Type 0
HasRectTypes r = FitsSigned w64 r.zoom × FitsSigned w64 r.column × FitsSigned w64 r.last_column
    × FitsSigned w64 r.row × FitsSigned w64 r.last_row

abbrev pub HasCommandTypes : Command → Type 0
HasCommandTypes (Add p identity content) = IsUuid p × IsUuid identity × HasContentTypes content
HasCommandTypes (Delete p identity) = IsUuid p × IsUuid identity
HasCommandTypes (Link p mapping base other) = IsUuid p × IsUuid base × IsUuid other
HasCommandTypes (Unlink p mapping base other) = IsUuid p × IsUuid base × IsUuid other
HasCommandTypes (Split p child mode rect) = IsUuid p × IsUuid child × HasRectTypes rect
HasCommandTypes (Merge child into ticket) = IsUuid child × IsUuid into × FitsSigned w64 ticket

-- as those of each request that the program has
abbrev pub HasRequestTypes : Request → Type 0
HasRequestTypes r = IsUuid r.id × IsUtf8 r.at × HasCommandTypes r.command

-- the text of a list of requests is a list of these requests
abbrev pub WrittenIsRead : Type 0
WrittenIsRead = (requests : List Request) → AllByRecursion HasRequestTypes requests
    → IsList (list_text requests) requests
