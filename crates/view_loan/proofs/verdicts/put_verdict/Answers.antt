use Rattle.std.specs.Prelude.{string_bytes}
use Rattle.view_report.proofs.Texts.{onward}
use Rattle.view_loan.proofs.verdicts.put_verdict.Goals as goal

pub returns : goal.returns
returns c =
    onward (string_bytes c.args.text.now) _ _ c.in_ok-put.ensures (
    onward (string_bytes c.put.new.text) _ _ c.in_ok-put_lending.ensures (
    onward (string_bytes c.put_lending.new.text) _ _ c.in_ok-put_amounts.ensures (
    onward (string_bytes c.put_amounts.new.text) _ _ c.in_ok-put_own_loans.ensures c.in_ok-put_request.ensures)))
