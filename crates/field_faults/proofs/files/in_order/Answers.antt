-- Sorted items whose keys differ are a set, of which it would have been found that they rise.
use Rattle.std.proofs.Common.{true, false, ◌∙◌, ℕ, ◌+◌, get_or, subst, sym, rules}
use Rattle.std.specs.Prelude.{unsigned_abs}
use Rattle.std.proofs.lemmas.List.Sorted.{answers_always}
use Rattle.sheet_types.specs.Ordered.{IsArranged, is_before}
use Rattle.sheet_types.specs.Texts.{kind_of}
use Rattle.sheet_types.specs.World.{kind_number}
use Rattle.field_changes.specs.Keys.{sign}
use Rattle.field_changes.specs.declared.held.HeldItem.{HeldItem}
use Rattle.field_changes.proofs.InOrder.{arranged_answer, sorted_set, moved_apart}
use Rattle.field_faults.specs.Files.{held_key}
use Rattle.field_faults.proofs.Nones.{three_ordered}
use Rattle.field_faults.proofs.files.in_order.Goals as goal

pub returns-then-is_sorted_by-clause-order : goal.returns-then-is_sorted_by-clause-order
returns-then-is_sorted_by-clause-order c =
    let answer = c.if-is_sorted_by.ensures.cases (λ x y. is_before (held_key x) (held_key y))
    (answers_always _ _ _ (λ f a r g h. search rules)) in
    subst (IsArranged held_key) c.deref.ensures.value (arranged_answer held_key c.deref.result.now true answer)

pub returns-clause-twice : goal.returns-clause-twice
returns-clause-twice c = λ apart.
    let kind : HeldItem → ℕ = λ i. kind_number (kind_of i.content) in
    let key : HeldItem → ℕ × ℕ × ℕ = λ i. (
      kind_number (kind_of i.content),
      sign i.number,
      unsigned_abs
          i.number,
    ) in
    let sorted = c.sort_unstable_by_key.ensures.sorted key (answers_always _ _ _ (λ f a r g h. search rules)) in
    let now = c.sort_unstable_by_key.new.self.items in
    let set : IsArranged held_key now = sorted_set held_key now
    (λ k d less. three_ordered (kind (get_or now (k + 1) d)) (kind (get_or now k d))
    (sign (get_or now (k + 1) d).number) (sign (get_or now k d).number)
    (unsigned_abs (get_or now (k + 1) d).number) (unsigned_abs (get_or now k d).number)
    ∙ sorted k d (search rules) less) (moved_apart held_key c.args.items.items now
    c.sort_unstable_by_key.ensures.permutation apart) in
    let answer = c.if-is_sorted_by.ensures.cases (λ x y. is_before (held_key x) (held_key y))
    (answers_always _ _ _ (λ f a r g h. search rules)) in
    arranged_answer held_key c.deref.result.now false answer
    (subst (IsArranged held_key) (sym c.deref.ensures.value) set)
