use Rattle.std.specs.Prelude.{string_bytes}
use Rattle.view_report.specs.Ledgers.{receipt_if}
use Rattle.view_report.proofs.Texts.{one_more}
use Rattle.view_report.proofs.ledgers.put_rows.Goals as goal

pub loop-receipt-preserved : goal.loop-receipt-preserved
loop-receipt-preserved c =
    one_more (receipt_if c.args.register.now) c.args.receipts.now c.loop-receipt.receipt-index c.receipt-item.result
    (string_bytes c.args.text.now) c.loop-receipt-test.true
    c.receipt-item.is c.loop-receipt.invariant c.in_ok-put_row_if.ensures
