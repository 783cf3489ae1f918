use Rattle.std.proofs.Common.{sym, subst}
use Rattle.std.proofs.lemmas.List.Sorted.{IsPermutation-refl}
use Rattle.std.specs.Vec.Iter.{into_iter_items}
use Rattle.package_receipts.specs.Ranges.{AreReceiptsInRange}
use Rattle.package_receipts.proofs.Saying.{none_in, range_moved}
use Rattle.package_receipts.proofs.receipts_in.Goals as goal

pub returns-clause-none : goal.returns-clause-none
returns-clause-none c =
    let rows = c.args.rows.items in
    let sorted = c.in_turn-moved.result.items in
    none_in (AreReceiptsInRange (into_iter_items c.into_iter.result) c.deref-2.result.now)
    (AreReceiptsInRange rows c.args.moved.items) c.receipts_of.result c.receipts_of.ensures.none
    (λ h. subst (AreReceiptsInRange (into_iter_items c.into_iter.result)) (sym c.deref-2.ensures.value)
    (subst (λ l. AreReceiptsInRange l sorted) (sym c.into_iter.ensures.rest)
    (range_moved rows rows c.args.moved.items sorted (IsPermutation-refl rows) c.in_turn-moved.ensures.same h)))
