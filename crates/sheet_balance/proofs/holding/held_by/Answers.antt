-- One package more.
use Rattle.std.proofs.Common.{◌+◌, take}
use Rattle.std.specs.Ordering.{nat_cmp}
use Rattle.std.specs.Cmp.Lexicographic.{slice_cmp}
use Rattle.std.specs.BTreeSet.{contains}
use Rattle.sheet_ledger.proofs.Walking.{one_more}
use Rattle.sheet_ledger.proofs.Sets.{known_more}
use Rattle.sheet_balance.specs.Holders.{has_seen}
use Rattle.sheet_balance.proofs.holding.held_by.Goals as goal

pub loop-holder-preserved : goal.loop-holder-preserved
loop-holder-preserved c =
    let i = c.loop-holder.holder-index in
    known_more (λ s thing. has_seen thing s) (contains (slice_cmp nat_cmp) c.loop-holder.held)
    (contains (slice_cmp nat_cmp) c.note_holder.new.held)
    (take i c.args.holders.now) (take (i + 1) c.args.holders.now) c.holder-item.result
    (one_more c.args.holders.now i c.holder-item.result c.loop-holder-test.true c.holder-item.is)
    c.loop-holder.invariant c.in_ok-note_holder.ensures
