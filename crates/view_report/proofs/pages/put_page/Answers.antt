use Rattle.std.specs.Prelude.{string_bytes}
use Rattle.std.proofs.Common.{◌∙◌, ◌++◌, ap}
use Rattle.view_report.specs.Ledgers.{ledger_digest}
use Rattle.view_report.specs.Pages.{verdict_section}
use Rattle.view_report.proofs.Texts.{onward}
use Rattle.view_report.proofs.pages.put_page.Goals as goal

pub returns : goal.returns
returns c =
    onward (string_bytes c.args.text.now) _ _ c.in_ok-put_head.ensures (
    onward (string_bytes c.put_head.new.text) _ _ (c.in_ok-put_verdict.ensures
    ∙ ap (λ d. string_bytes c.put_head.new.text ++ verdict_section c.args.register.now d)
    (c.in_ok-digest.ensures ∙ ap ledger_digest c.deref.ensures.value)) (
    onward (string_bytes c.put_verdict.new.text) _ _ c.in_ok-put_holders.ensures (
    onward (string_bytes c.put_holders.new.text) _ _ (rw c.deref-2.ensures.value at c.in_ok-put_map.ensures) (
    onward (string_bytes c.put_map.new.text) _ _ c.in_ok-put_all_holdings.ensures (
    onward (string_bytes c.put_all_holdings.new.text) _ _ c.in_ok-put_ledger.ensures c.in_ok-put_account.ensures)))))
