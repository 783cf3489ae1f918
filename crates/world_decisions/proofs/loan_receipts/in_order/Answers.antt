-- Things of which each was found before the next are in order.
use Rattle.std.proofs.Common.{subst, sym, rules}
use Rattle.std.proofs.lemmas.List.Sorted.{answers_always}
use Rattle.sheet_types.specs.Ordered.{IsArranged, is_before}
use Rattle.sheet_types.specs.World.{moved_key}
use Rattle.cut.proofs.Alike.{rising}
use Rattle.world_decisions.proofs.loan_receipts.in_order.Goals as goal

pub returns-then-is_sorted_by-clause-order : goal.returns-then-is_sorted_by-clause-order
returns-then-is_sorted_by-clause-order c =
    let answer = c.if-is_sorted_by.ensures.cases (λ x y. is_before (moved_key x) (moved_key y))
    (answers_always _ _ _ (λ f a r g h. search rules)) in
    subst (IsArranged moved_key) c.deref.ensures.value (rising moved_key c.deref.result.now
    (λ k d less. sym (answer k d less)))
