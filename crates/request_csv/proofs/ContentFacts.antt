-- A record adds nothing where nothing of the kind that it names is added.
use Rattle.std.specs.Prelude.{◌≡◌, ℕ, ℤ, List}
use Rattle.sheet_types.proofs.Basics.{some_once}
use Rattle.sheet_types.specs.Texts.{kind_word}
use Rattle.sheet_types.specs.declared.command.Content.{Content}
use Rattle.sheet_types.specs.declared.command.Content.TheVariants.{Tile, Media, Row}
use Rattle.sheet_types.specs.declared.receipt.MovedKind.TheVariants.{TileItem, MediaItem, RowItem}
use Rattle.request_csv.specs.Requests.{IsContent, IsTextAt}

abbrev pub NoTile : List (List ℕ) → Type 0
NoTile fields = (zoom column line : ℤ) (bytes : List ℕ) → ¬ IsContent fields (Tile zoom column line bytes)

abbrev pub NoMedium : List (List ℕ) → Type 0
NoMedium fields = (content_type bytes : List ℕ) → ¬ IsContent fields (Media content_type bytes)

abbrev pub NoRow : List (List ℕ) → Type 0
NoRow fields = (x y code : ℤ) (label : List ℕ) → ¬ IsContent fields (Row x y code label)

pub no_content : (fields : List (List ℕ)) (word : List ℕ) → IsTextAt fields 6 word
    → (word ≡ kind_word TileItem → NoTile fields) → (word ≡ kind_word MediaItem → NoMedium fields)
    → (word ≡ kind_word RowItem → NoRow fields) → (content : Content) → ¬ IsContent fields content
no_content fields word there tile medium row (Tile zoom column line bytes) is =
    tile (some_once _ _ _ there is.0) zoom column line bytes is
no_content fields word there tile medium row (Media content_type bytes) is =
    medium (some_once _ _ _ there is.0) content_type bytes is
no_content fields word there tile medium row (Row x y code label) is =
    row (some_once _ _ _ there is.0) x y code label is
