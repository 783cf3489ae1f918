-- Sorted items whose keys differ are a set, of which it would have been found that they rise.
use Rattle.std.proofs.Common.{true, false, ℕ, List, subst, sym, rules}
use Rattle.std.proofs.lemmas.List.Sorted.{answers_always}
use Rattle.sheet_types.specs.Ordered.{IsArranged, is_before}
use Rattle.sheet_types.specs.Texts.{kind_of}
use Rattle.sheet_types.specs.World.{item_key, kind_number}
use Rattle.sheet_types.specs.declared.command.Item.{Item}
use Rattle.identity_register.proofs.InOrder.{arranged_answer, sorted_set, moved_apart}
use Rattle.identity_register.proofs.whole.items_in_order.Goals as goal

pub returns-then-is_sorted_by-clause-order : goal.returns-then-is_sorted_by-clause-order
returns-then-is_sorted_by-clause-order c =
    let answer = c.if-is_sorted_by.ensures.cases (λ x y. is_before (item_key x) (item_key y))
    (answers_always _ _ _ (λ f a r g h. search rules)) in
    subst (IsArranged item_key) c.deref.ensures.value (arranged_answer item_key c.deref.result.now true answer)

pub returns-else-is_sorted_by-clause-twice : goal.returns-else-is_sorted_by-clause-twice
returns-else-is_sorted_by-clause-twice c = λ apart.
    let key : Item → ℕ × List ℕ = λ i. (kind_number (kind_of i.content), i.identity) in
    let sorted = c.sort_unstable_by_key.ensures.sorted key (answers_always _ _ _ (λ f a r g h. search rules)) in
    let now = c.sort_unstable_by_key.new.self.items in
    let set : IsArranged item_key now = sorted_set item_key now (λ k d less. sorted k d (search rules) less)
    (moved_apart item_key c.args.items.items now c.sort_unstable_by_key.ensures.permutation apart) in
    let answer = c.if-is_sorted_by.ensures.cases (λ x y. is_before (item_key x) (item_key y))
    (answers_always _ _ _ (λ f a r g h. search rules)) in
    arranged_answer item_key c.deref.result.now false answer
    (subst (IsArranged item_key) (sym c.deref.ensures.value) set)
