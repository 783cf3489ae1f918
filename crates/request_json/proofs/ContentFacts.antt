-- An object adds nothing where nothing of the kind that it names is added.
use Rattle.std.specs.Prelude.{◌≡◌, ℕ, ℤ, List, codes}
use Rattle.sheet_types.proofs.Basics.{some_once}
use Rattle.sheet_types.specs.Texts.{kind_word}
use Rattle.sheet_types.specs.declared.command.Content.{Content}
use Rattle.sheet_types.specs.declared.command.Content.TheVariants.{Tile, Media, Row}
use Rattle.sheet_types.specs.declared.receipt.MovedKind.TheVariants.{TileItem, MediaItem, RowItem}
use Rattle.serde_json.specs.Data.{Data}
use Rattle.request_json.specs.Members.{IsTextAt}
use Rattle.request_json.specs.Requests.{IsContent}

abbrev pub NoTile : Data → Type 0
NoTile d = (zoom column line : ℤ) (bytes : List ℕ) → ¬ IsContent d (Tile zoom column line bytes)

abbrev pub NoMedium : Data → Type 0
NoMedium d = (content_type bytes : List ℕ) → ¬ IsContent d (Media content_type bytes)

abbrev pub NoRow : Data → Type 0
NoRow d = (x y code : ℤ) (label : List ℕ) → ¬ IsContent d (Row x y code label)

pub no_content : (d : Data) (word : List ℕ) → IsTextAt d (codes "kind") word
    → (word ≡ kind_word TileItem → NoTile d)
    → (word ≡ kind_word MediaItem → NoMedium d)
    → (word ≡ kind_word RowItem → NoRow d) → (content : Content) → ¬ IsContent d content
no_content d word there tile medium row (Tile zoom column line bytes) is =
    tile (some_once _ _ _ there is.0) zoom column line bytes is
no_content d word there tile medium row (Media content_type bytes) is =
    medium (some_once _ _ _ there is.0) content_type bytes is
no_content d word there tile medium row (Row x y code label) is = row (some_once _ _ _ there is.0) x y code label is
