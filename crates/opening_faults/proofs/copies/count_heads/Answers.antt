-- One store more.
use Rattle.std.proofs.Common.{◌+◌, take}
use Rattle.std.specs.Ordering.{nat_cmp}
use Rattle.std.specs.Cmp.Lexicographic.{slice_cmp}
use Rattle.std.specs.BTreeMap.{get}
use Rattle.sheet_ledger.proofs.Walking.{one_more}
use Rattle.opening_faults.specs.Splits.{has_key}
use Rattle.opening_faults.proofs.Counting.{told_of_more}
use Rattle.opening_faults.proofs.copies.count_heads.Goals as goal

pub loop-sight-preserved : goal.loop-sight-preserved
loop-sight-preserved c = λ key.
    let i = c.loop-sight.sight-index in
    told_of_more (has_key key) (get (slice_cmp nat_cmp) c.loop-sight.counts key)
    (get (slice_cmp nat_cmp) c.count_sight.new.counts key) (take i c.args.sights.now)
    (take (i + 1) c.args.sights.now) c.sight-item.result
    (one_more c.args.sights.now i c.sight-item.result c.loop-sight-test.true c.sight-item.is)
    (c.loop-sight.invariant key) (c.in_ok-count_sight.ensures key)
