use Rattle.std.specs.Prelude.{string_bytes}
use Rattle.view_report.proofs.Texts.{one_more}
use Rattle.view_loan.specs.Verdicts.{own_loan_if}
use Rattle.view_loan.proofs.verdicts.put_own_among.Goals as goal

pub loop-live-preserved : goal.loop-live-preserved
loop-live-preserved c =
    one_more (own_loan_if c.args.register.now c.args.loan) c.args.packages.now c.loop-live.live-index
    c.live-item.result (string_bytes c.args.text.now) c.loop-live-test.true
    c.live-item.is c.loop-live.invariant c.in_ok-put_own_loan_if.ensures
