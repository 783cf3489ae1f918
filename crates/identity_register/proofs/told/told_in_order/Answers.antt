-- Sorted items that rise are in their order.
use Rattle.std.proofs.Common.{true, subst, rules}
use Rattle.std.proofs.lemmas.List.Sorted.{answers_always}
use Rattle.sheet_types.specs.Ordered.{IsArranged, is_before}
use Rattle.sheet_types.specs.World.{moved_key}
use Rattle.identity_register.proofs.InOrder.{arranged_answer}
use Rattle.identity_register.proofs.told.told_in_order.Goals as goal

pub returns-then-is_sorted_by-clause-order : goal.returns-then-is_sorted_by-clause-order
returns-then-is_sorted_by-clause-order c =
    let answer = c.if-is_sorted_by.ensures.cases (λ x y. is_before (moved_key x) (moved_key y))
    (answers_always _ _ _ (λ f a r g h. search rules)) in
    subst (IsArranged moved_key) c.deref.ensures.value (arranged_answer moved_key c.deref.result.now true answer)
