-- What the numbers of an export are: each item is written under the number by which links name it.
use Rattle.std.specs.Prelude.{◌≡◌, false, List, [], ◌∷◌, ⊤, bytes_eq, flat_map}
use Rattle.std.specs.List.{list_any}
use Rattle.sheet_types.specs.declared.command.Item.{Item}
use Rattle.sheet_types.specs.declared.frame.Frame.{Frame}
use Rattle.view_export.specs.Exports.{item_rows, items_behind}
use Rattle.view_export.specs.Numbers.{no_counts, number_of}

-- no two items have one identity
abbrev pub AreApart : List Item → Type 0
AreApart [] = ⊤
AreApart (item ∷ items) = (list_any (λ other. bytes_eq item.identity other.identity) items ≡ false)
    × AreApart items

-- The rows of items whose identities are apart: each once, in order, under the number that links give for it.
abbrev pub AreWrittenAsLinked : Type 0
AreWrittenAsLinked = (f : Frame) (items : List Item) → AreApart items
    → items_behind f no_counts items ≡ flat_map (λ item. item_rows f (number_of items item.identity) item) items
