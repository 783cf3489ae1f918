-- One receipt more.
use Rattle.std.proofs.Common.{◌∙◌, ◌+◌, take}
use Rattle.sheet_ledger.proofs.Walking.{one_more}
use Rattle.sheet_balance.specs.Splits.{lents_in, lents_by}
use Rattle.sheet_balance.proofs.Splitting.{lents_more}
use Rattle.sheet_balance.proofs.splits.note_splits.Goals as goal

pub loop-receipt-preserved : goal.loop-receipt-preserved
loop-receipt-preserved c =
    let i = c.loop-receipt.receipt-index in
    record {
      noted = λ p. lents_more (lents_by c.args.home p) (lents_in c.args.splits.now p)
          (lents_in c.loop-receipt.splits p) (lents_in c.note_receipt.new.splits p) (take i c.args.receipts.now)
          (take (i + 1) c.args.receipts.now) c.receipt-item.result
          (one_more c.args.receipts.now i c.receipt-item.result c.loop-receipt-test.true c.receipt-item.is)
          (c.loop-receipt.invariant.noted p) (c.in_ok-note_receipt.ensures.noted p);
      whole = c.in_ok-note_receipt.ensures.whole ∙ c.loop-receipt.invariant.whole;
    }
