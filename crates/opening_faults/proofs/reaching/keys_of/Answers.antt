-- One split more.
use Rattle.std.proofs.Common.{◌+◌, take}
use Rattle.std.specs.Ordering.{nat_cmp}
use Rattle.std.specs.Cmp.Lexicographic.{slice_cmp}
use Rattle.std.specs.BTreeSet.{contains}
use Rattle.sheet_ledger.proofs.Walking.{one_more}
use Rattle.sheet_ledger.proofs.Sets.{known_more}
use Rattle.opening_faults.specs.Splits.{makes_key}
use Rattle.opening_faults.proofs.reaching.keys_of.Goals as goal

pub loop-split-preserved : goal.loop-split-preserved
loop-split-preserved c =
    let i = c.loop-split.split-index in
    known_more (λ s key. makes_key key s) (contains (slice_cmp nat_cmp) c.loop-split.loans)
    (contains (slice_cmp nat_cmp) c.note_key.new.loans)
    (take i c.args.splits.now) (take (i + 1) c.args.splits.now) c.split-item.result
    (one_more c.args.splits.now i c.split-item.result c.loop-split-test.true c.split-item.is)
    c.loop-split.invariant c.in_ok-note_key.ensures
