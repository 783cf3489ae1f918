-- Items behind so many are written under the numbers that they have behind so many.
use Rattle.std.specs.Prelude.{◌≡◌, ◌++◌, ◌||◌, true, false, cond, List, [], ◌∷◌, bytes_eq}
use Rattle.std.specs.Prelude.{flat_map, refl}
use Rattle.std.specs.List.{list_any}
use Rattle.std.proofs.Common.{ap, sym, ◌∙◌}
use Rattle.std.proofs.lemmas.Bool.{false≢true}
use Rattle.std.proofs.lemmas.Slice.Eq.{bytes_eq-Decides}
use Rattle.sheet_types.specs.declared.command.Item.{Item}
use Rattle.sheet_types.specs.declared.frame.Frame.{Frame}
use Rattle.view_export.specs.Exports.{item_rows, items_behind}
use Rattle.view_export.specs.Laws.{AreApart}
use Rattle.view_export.specs.Numbers.{counted, next_number, number_behind}
use Rattle.view_export.specs.declared.numbers.Counts.{Counts}

-- an item before them with an identity of its own changes nothing
rows_past : (f : Frame) (c : Counts) (first : Item) (items some : List Item)
    → list_any (λ other. bytes_eq first.identity other.identity) some ≡ false
    → flat_map (λ item. item_rows f (number_behind c (first ∷ items) item.identity) item) some
    ≡ flat_map (λ item. item_rows f (number_behind (counted c first.content) items item.identity) item) some
rows_past f c first items [] apart = refl
rows_past f c first items (item ∷ some) apart =
    elim (bytes_eq first.identity item.identity) as (λ b. (b || list_any
    (λ other. bytes_eq first.identity other.identity) some) ≡ false
    → item_rows f (cond b (next_number c first.content) (number_behind (counted c first.content) items item.identity))
    item
    ++ flat_map (λ i. item_rows f (number_behind c (first ∷ items) i.identity) i) some
    ≡ item_rows f (number_behind (counted c first.content) items item.identity) item
    ++ flat_map (λ i. item_rows f (number_behind (counted c first.content) items i.identity) i) some) [
      | true ↦ λ e. absurd (false≢true (sym e))
      | false ↦ λ e. ap (λ rows. item_rows f (number_behind (counted c first.content) items item.identity) item
          ++ rows) (rows_past f c first items some e)
    ] apart

-- the number of the first is the next
first_is : (c : Counts) (first : Item) (items : List Item) → number_behind c (first ∷ items) first.identity
    ≡ next_number c first.content
first_is c first items =
    ap (λ b. cond b (next_number c first.content) (number_behind (counted c first.content) items first.identity))
    ((bytes_eq-Decides first.identity first.identity).1 refl)

pub written_behind : (f : Frame) (c : Counts) (items : List Item) → AreApart items
    → items_behind f c items ≡ flat_map (λ item. item_rows f (number_behind c items item.identity) item) items
written_behind f c [] apart = refl
written_behind f c (first ∷ items) apart =
    ap (λ rows. item_rows f (next_number c first.content) first ++ rows)
    (written_behind f (counted c first.content) items apart.1 ∙ sym (rows_past f c first items items apart.0))
    ∙ ap (λ n. item_rows f n first ++ flat_map (λ i. item_rows f (number_behind c (first ∷ items) i.identity) i)
    items) (sym (first_is c first items))
