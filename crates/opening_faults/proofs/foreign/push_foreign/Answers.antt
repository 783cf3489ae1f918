-- One store more.
use Rattle.std.proofs.Common.{◌+◌, take}
use Rattle.sheet_ledger.proofs.Walking.{one_more}
use Rattle.opening_faults.specs.Foreign.{IsForeignOf}
use Rattle.opening_faults.proofs.Apart.{adds_more}
use Rattle.opening_faults.proofs.foreign.push_foreign.Goals as goal

pub loop-sight-preserved : goal.loop-sight-preserved
loop-sight-preserved c =
    let i = c.loop-sight.sight-index in
    adds_more (IsForeignOf c.args.root.now c.args.split.now) (take i c.args.sights.now)
    (take (i + 1) c.args.sights.now) c.sight-item.result c.args.ids.now.items c.loop-sight.ids.items
    c.push_apart.new.ids.items
    (one_more c.args.sights.now i c.sight-item.result c.loop-sight-test.true c.sight-item.is) c.loop-sight.invariant
    c.in_ok-push_apart.ensures
