-- One item more.
use Rattle.std.proofs.Common.{◌+◌, bytes_eq, take}
use Rattle.std.specs.Ordering.{nat_cmp}
use Rattle.std.specs.Cmp.Lexicographic.{slice_cmp}
use Rattle.std.specs.BTreeSet.{contains}
use Rattle.sheet_ledger.proofs.Walking.{one_more}
use Rattle.sheet_ledger.proofs.Sets.{named_more}
use Rattle.opening_faults.specs.Altered.{item_said}
use Rattle.opening_faults.proofs.altered.note_items.Goals as goal

pub loop-moved-preserved : goal.loop-moved-preserved
loop-moved-preserved c =
    let i = c.loop-moved.moved-index in
    named_more (λ m key. bytes_eq (item_said m) key) (contains (slice_cmp nat_cmp) c.args.added.now)
    (contains (slice_cmp nat_cmp) c.loop-moved.added) (contains (slice_cmp nat_cmp) c.note_item.new.added)
    (take i c.args.items.now) (take (i + 1) c.args.items.now) c.moved-item.result
    (one_more c.args.items.now i c.moved-item.result c.loop-moved-test.true c.moved-item.is)
    c.loop-moved.invariant c.in_ok-note_item.ensures
