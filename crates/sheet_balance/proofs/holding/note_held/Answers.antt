-- One thing more.
use Rattle.std.proofs.Common.{◌+◌, bytes_eq, take}
use Rattle.std.specs.Ordering.{nat_cmp}
use Rattle.std.specs.Cmp.Lexicographic.{slice_cmp}
use Rattle.std.specs.BTreeSet.{contains}
use Rattle.sheet_types.specs.World.{moved_thing}
use Rattle.sheet_ledger.proofs.Walking.{one_more}
use Rattle.sheet_ledger.proofs.Sets.{named_more}
use Rattle.sheet_balance.proofs.holding.note_held.Goals as goal

pub loop-moved-preserved : goal.loop-moved-preserved
loop-moved-preserved c =
    let i = c.loop-moved.moved-index in
    named_more (λ m thing. bytes_eq (moved_thing m) thing) (contains (slice_cmp nat_cmp) c.args.held.now)
    (contains (slice_cmp nat_cmp) c.loop-moved.held) (contains (slice_cmp nat_cmp) c.note.new.held)
    (take i c.args.things.now) (take (i + 1) c.args.things.now) c.moved-item.result
    (one_more c.args.things.now i c.moved-item.result c.loop-moved-test.true c.moved-item.is)
    c.loop-moved.invariant c.in_ok-note.ensures
