-- One more.
use Rattle.std.proofs.Common.{sym, subst, ◌+◌, take, Some}
use Rattle.std.proofs.lemmas.List.{take_all}
use Rattle.sheet_ledger.proofs.Walking.{one_more}
use Rattle.opening_faults.specs.Least.{IsLeastOf}
use Rattle.opening_faults.proofs.Choosing.{least_more}
use Rattle.opening_faults.proofs.least.least_of.Goals as goal

pub loop-id-preserved : goal.loop-id-preserved
loop-id-preserved c =
    let i = c.loop-id.id-index in
    let ids = c.args.ids.now in
    subst (λ v. IsLeastOf (Some v) (take (i + 1) ids)) (sym c.lesser.ensures)
    (least_more c.loop-id.least (take i ids) (take (i + 1) ids) c.id-item.result
    (one_more ids i c.id-item.result c.loop-id-test.true c.id-item.is) c.loop-id.invariant)

pub returns : goal.returns
returns c = subst (IsLeastOf c.loop-id.least) (take_all c.loop-id.id-index c.args.ids.now c.loop-id-test.false)
    c.loop-id.invariant
