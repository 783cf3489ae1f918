-- One package more.
use Rattle.std.proofs.Common.{[], ◌+◌, subst, take}
use Rattle.sheet_ledger.proofs.Walking.{one_more}
use Rattle.opening_faults.specs.Altered.{IsAlteredOf, IsAlteredAmong}
use Rattle.opening_faults.specs.Foreign.{Adds}
use Rattle.opening_faults.proofs.Apart.{adds_more}
use Rattle.opening_faults.proofs.altered.altered_ids.Goals as goal

pub loop-holder-preserved : goal.loop-holder-preserved
loop-holder-preserved c =
    let i = c.loop-holder.holder-index in
    adds_more (IsAlteredOf c.args.added.now) (take i c.args.holders.now) (take (i + 1) c.args.holders.now)
    c.holder-item.result [] c.loop-holder.ids.items c.push_altered.new.ids.items
    (one_more c.args.holders.now i c.holder-item.result c.loop-holder-test.true c.holder-item.is)
    c.loop-holder.invariant
    (subst (λ xs. Adds (IsAlteredAmong c.args.added.now xs) c.loop-holder.ids.items c.push_altered.new.ids.items)
    c.as_slice.ensures c.in_ok-push_altered.ensures)
