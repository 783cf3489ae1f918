-- The numbers of items in an export: 1, 2, 3 and so on of each kind, in the order of the list.
use Rattle.std.specs.Prelude.{◌≡◌, ℕ, ◌+◌, List, [], ◌∷◌, Option, if◌then◌else◌, bytes_eq}
use Rattle.std.specs.Prelude.{unwrap_or}
use Rattle.std.specs.BTreeMap.{BTreeMap, get}
use Rattle.std.specs.Cmp.Lexicographic.{slice_cmp}
use Rattle.std.specs.Ordering.{nat_cmp}
use Rattle.sheet_types.specs.declared.command.Content.{Content}
use Rattle.sheet_types.specs.declared.command.Content.TheVariants.{Tile, Media, Row}
use Rattle.sheet_types.specs.declared.command.Item.{Item}
use Rattle.view_export.specs.declared.numbers.Counts.{Counts}

abbrev pub no_counts : Counts
no_counts = record { tiles = 0; media = 0; rows = 0 }

-- with one more of the kind of this content
abbrev pub counted : Counts → Content → Counts
counted c (Tile zoom column row bytes) = record { tiles = c.tiles + 1; media = c.media; rows = c.rows }
counted c (Media content_type bytes) = record { tiles = c.tiles; media = c.media + 1; rows = c.rows }
counted c (Row x y code label) = record { tiles = c.tiles; media = c.media; rows = c.rows + 1 }

-- the count of the kind of this content
abbrev pub count_of : Counts → Content → ℕ
count_of c (Tile zoom column row bytes) = c.tiles
count_of c (Media content_type bytes) = c.media
count_of c (Row x y code label) = c.rows

-- the number of an item behind so many
abbrev pub next_number : Counts → Content → ℕ
next_number c content = count_of (counted c content) content

-- the number of the first item with this identity, behind so many; 0 where there is none
abbrev pub number_behind : Counts → List Item → List ℕ → ℕ
number_behind c [] id = 0
number_behind c (item ∷ items) id =
    if bytes_eq item.identity id then next_number c item.content else number_behind (counted c item.content) items id

-- the number of the item with this identity among all
abbrev pub number_of : List Item → List ℕ → ℕ
number_of items id = number_behind no_counts items id

-- ---- noted under identities

-- what a map has under an identity
abbrev pub noted_in : BTreeMap (List ℕ) ℕ → List ℕ → Option ℕ
noted_in numbers id = get (slice_cmp nat_cmp) numbers id

-- the map has the number of each of these items
abbrev pub AreNumbersOf : BTreeMap (List ℕ) ℕ → List Item → Type 0
AreNumbersOf numbers items = (id : List ℕ) → unwrap_or (noted_in numbers id) 0 ≡ number_of items id
