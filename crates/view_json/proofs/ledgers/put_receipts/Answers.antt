-- The receipts, one after the other.
use Rattle.std.proofs.Common.{◌++◌, arith, map, subst, take}
use Rattle.std.proofs.lemmas.List.{take_all}
use Rattle.std.specs.Borrow.{Bor}
use Rattle.sheet_types.specs.declared.receipt.Receipt.{Receipt}
use Rattle.view_json.specs.Arrays.{IsOpen}
use Rattle.view_json.specs.Ledgers.{receipt_data}
use Rattle.view_json.proofs.Opened.{none_yet, one_behind}
use Rattle.view_json.proofs.ledgers.put_receipts.Goals as goal

pub loop-receipt-init : goal.loop-receipt-init
loop-receipt-init c = λ ds given. none_yet ds _ given

pub loop-receipt-preserved : goal.loop-receipt-preserved
loop-receipt-preserved c = λ ds given.
    one_behind (λ (r : Bor Receipt). receipt_data r.now) ds c.args.receipts.now c.loop-receipt.receipt-index
    c.receipt-item.result _ c.loop-receipt-test.true c.receipt-item.is
    (c.in_ok-put_receipt.ensures
    (ds ++ map (λ (r : Bor Receipt). receipt_data r.now) (take c.loop-receipt.receipt-index c.args.receipts.now))
    (c.loop-receipt.invariant ds given))

pub returns : goal.returns
returns c = λ ds given.
    subst (λ all. IsOpen (ds ++ map (λ (r : Bor Receipt). receipt_data r.now) all) c.loop-receipt.lines)
    (take_all c.loop-receipt.receipt-index c.args.receipts.now (omega (arith, c.loop-receipt-test.false)))
    (c.loop-receipt.invariant ds given)
