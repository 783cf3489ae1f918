-- One split more.
use Rattle.std.proofs.Common.{[], ◌+◌, take}
use Rattle.sheet_ledger.proofs.Walking.{one_more}
use Rattle.opening_faults.specs.Foreign.{IsForeignIn}
use Rattle.opening_faults.proofs.Apart.{adds_more}
use Rattle.opening_faults.proofs.foreign.foreign_ids.Goals as goal

pub loop-split-preserved : goal.loop-split-preserved
loop-split-preserved c =
    let i = c.loop-split.split-index in
    adds_more (IsForeignIn c.args.root.now c.args.sights.now) (take i c.args.splits.now)
    (take (i + 1) c.args.splits.now) c.split-item.result [] c.loop-split.ids.items c.push_foreign.new.ids.items
    (one_more c.args.splits.now i c.split-item.result c.loop-split-test.true c.split-item.is) c.loop-split.invariant
    c.in_ok-push_foreign.ensures
