use Rattle.std.specs.Prelude.{string_bytes}
use Rattle.view_report.proofs.Texts.{one_more}
use Rattle.view_loan.specs.Lent.{lent_row}
use Rattle.view_loan.proofs.lent.put_all_lent.Goals as goal

pub loop-moved-preserved : goal.loop-moved-preserved
loop-moved-preserved c =
    one_more (lent_row c.args.register.now) c.args.items.now c.loop-moved.moved-index c.moved-item.result
    (string_bytes c.args.text.now) c.loop-moved-test.true
    c.moved-item.is c.loop-moved.invariant c.in_ok-put_lent.ensures
