-- The receipts, one after the other.
use Rattle.std.proofs.Common.{◌++◌, arith, subst, take}
use Rattle.std.proofs.lemmas.List.{take_all}
use Rattle.view_json.specs.Arrays.{IsOpen}
use Rattle.view_json.specs.Ways.{way_datas}
use Rattle.view_json.proofs.Opened.{none_yet, way_behind}
use Rattle.view_json.proofs.ways.put_receipts.Goals as goal

pub loop-receipt-init : goal.loop-receipt-init
loop-receipt-init c = λ ds given. none_yet ds _ given

pub loop-receipt-preserved : goal.loop-receipt-preserved
loop-receipt-preserved c = λ ds given.
    way_behind c.args.identity ds c.args.receipts.now c.loop-receipt.receipt-index c.receipt-item.result _
    c.loop-receipt-test.true c.receipt-item.is
    (c.in_ok-put_if_named.ensures
    (ds ++ way_datas c.args.identity (take c.loop-receipt.receipt-index c.args.receipts.now))
    (c.loop-receipt.invariant ds given))

pub returns : goal.returns
returns c = λ ds given.
    subst (λ all. IsOpen (ds ++ way_datas c.args.identity all) c.loop-receipt.lines)
    (take_all c.loop-receipt.receipt-index c.args.receipts.now (omega (arith, c.loop-receipt-test.false)))
    (c.loop-receipt.invariant ds given)
