-- One package more.
use Rattle.std.proofs.Common.{◌+◌, take}
use Rattle.sheet_ledger.proofs.Walking.{one_more}
use Rattle.sheet_ledger.proofs.Sets.{seen_more}
use Rattle.sheet_balance.proofs.sums.uuids_of.Goals as goal

pub loop-holder-preserved : goal.loop-holder-preserved
loop-holder-preserved c =
    let i = c.loop-holder.holder-index in
    seen_more (λ s. s.uuid) c.loop-holder.uuids c.insert.new.self (take i c.args.holders.now)
    (take (i + 1) c.args.holders.now) c.holder-item.result
    (one_more c.args.holders.now i c.holder-item.result c.loop-holder-test.true c.holder-item.is) c.loop-holder.invariant
    c.in_ok-insert.ensures.updates
