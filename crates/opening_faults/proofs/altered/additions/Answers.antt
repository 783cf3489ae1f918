-- One receipt more.
use Rattle.std.proofs.Common.{◌+◌, take}
use Rattle.std.specs.Ordering.{nat_cmp}
use Rattle.std.specs.Cmp.Lexicographic.{slice_cmp}
use Rattle.std.specs.BTreeSet.{contains}
use Rattle.sheet_ledger.proofs.Walking.{one_more}
use Rattle.sheet_ledger.proofs.Sets.{known_more}
use Rattle.opening_faults.specs.Altered.{adds_item}
use Rattle.opening_faults.proofs.altered.additions.Goals as goal

pub loop-receipt-preserved : goal.loop-receipt-preserved
loop-receipt-preserved c =
    let i = c.loop-receipt.receipt-index in
    known_more (λ r key. adds_item key r) (contains (slice_cmp nat_cmp) c.loop-receipt.added)
    (contains (slice_cmp nat_cmp) c.note_receipt.new.added)
    (take i c.args.ledger.now) (take (i + 1) c.args.ledger.now) c.receipt-item.result
    (one_more c.args.ledger.now i c.receipt-item.result c.loop-receipt-test.true c.receipt-item.is)
    c.loop-receipt.invariant c.in_ok-note_receipt.ensures
