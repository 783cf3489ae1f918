-- One item more.
use Rattle.std.proofs.Common.{◌+◌, take}
use Rattle.sheet_ledger.proofs.Walking.{one_more}
use Rattle.opening_faults.specs.Altered.{IsAlteredAt}
use Rattle.opening_faults.proofs.Apart.{adds_more}
use Rattle.opening_faults.proofs.altered.push_altered.Goals as goal

pub loop-moved-preserved : goal.loop-moved-preserved
loop-moved-preserved c =
    let i = c.loop-moved.moved-index in
    adds_more (IsAlteredAt c.args.added.now) (take i c.args.items.now) (take (i + 1) c.args.items.now)
    c.moved-item.result c.args.ids.now.items c.loop-moved.ids.items c.push_item.new.ids.items
    (one_more c.args.items.now i c.moved-item.result c.loop-moved-test.true c.moved-item.is) c.loop-moved.invariant
    c.in_ok-push_item.ensures
