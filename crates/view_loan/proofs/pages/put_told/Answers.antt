use Rattle.std.proofs.Common.{◌∙◌, ◌++◌, ap}
use Rattle.std.specs.Prelude.{string_bytes}
use Rattle.view_report.proofs.Texts.{onward}
use Rattle.view_report.specs.Ledgers.{ledger_digest}
use Rattle.view_loan.specs.Verdicts.{verdict_text}
use Rattle.view_loan.proofs.pages.put_told.Goals as goal

pub returns : goal.returns
returns c =
    onward (string_bytes c.args.text.now) _ _ c.in_ok-put_head.ensures (
    onward (string_bytes c.put_head.new.text) _ _ (c.in_ok-put_verdict.ensures
    ∙ ap (λ d. string_bytes c.put_head.new.text ++ verdict_text c.args.register.now c.args.live.now c.args.lender
    c.args.receipt.now d) (c.in_ok-digest.ensures ∙ ap ledger_digest c.deref.ensures.value)) (
    onward (string_bytes c.put_verdict.new.text) _ _ c.in_ok-put_lists.ensures c.in_ok-put_own_account.ensures))
