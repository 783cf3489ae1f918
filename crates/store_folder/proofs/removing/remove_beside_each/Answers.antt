-- One more was removed, or none.
use Rattle.std.proofs.Common.{[], refl}
use Rattle.store_folder.proofs.Removed.{loop_more, removed_more, some_of_all}
use Rattle.store_folder.proofs.removing.remove_beside_each.Goals as goal

pub loop-name-init : goal.loop-name-init
loop-name-init g c = ([], record { from = tt; there = tt; all = λ name there from. there }, refl)

pub loop-name-preserved : goal.loop-name-preserved
loop-name-preserved g c = loop_more g.F.RemoveFile.removes (λ name. name.now) c.args.names.now c.loop-name.name-index _ _
    _ _ _ c.loop-name-test.true c.loop-name.invariant c.remove_if_beside.ensures

pub returns-in_err-remove_if_beside-clause-no_other : goal.returns-in_err-remove_if_beside-clause-no_other
returns-in_err-remove_if_beside-clause-no_other g c = removed_more g.F.RemoveFile.removes _ _ _ _ _
    (some_of_all g.F.RemoveFile.removes _ _ _ _ c.loop-name.invariant) c.remove_if_beside.ensures

pub returns-clause-no_other : goal.returns-clause-no_other
returns-clause-no_other g c = some_of_all g.F.RemoveFile.removes _ _ _ _ c.loop-name.invariant
