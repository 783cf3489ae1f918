-- One receipt more.
use Rattle.std.proofs.Common.{◌+◌, take}
use Rattle.sheet_ledger.proofs.Walking.{one_more}
use Rattle.opening_verdict.proofs.Lasting.{last_more}
use Rattle.opening_verdict.proofs.tickets.note_all.Goals as goal

pub loop-receipt-preserved : goal.loop-receipt-preserved
loop-receipt-preserved c =
    let i = c.loop-receipt.receipt-index in
    last_more c.loop-receipt.last c.note_receipt.new.last (take i c.args.ledger.now) (take (i + 1) c.args.ledger.now)
    c.receipt-item.result
    (one_more c.args.ledger.now i c.receipt-item.result c.loop-receipt-test.true c.receipt-item.is)
    c.loop-receipt.invariant c.in_ok-note_receipt.ensures
