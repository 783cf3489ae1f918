use Rattle.std.specs.Prelude.{string_bytes}
use Rattle.view_report.proofs.Texts.{onward}
use Rattle.view_report.proofs.accounts.put_account.Goals as goal

pub returns : goal.returns
returns c =
    onward (string_bytes c.args.text.now) _ _ c.in_ok-put.ensures (
    onward (string_bytes c.put.new.text) _ _ c.in_ok-put_swatch.ensures (
    onward (string_bytes c.put_swatch.new.text) _ _ c.in_ok-put-2.ensures (
    onward (string_bytes c.put-2.new.text) _ _ c.in_ok-put_name.ensures (
    onward (string_bytes c.put_name.new.text) _ _ c.in_ok-put-3.ensures (
    onward (string_bytes c.put-3.new.text) _ _ c.in_ok-put_totals.ensures (
    onward (string_bytes c.put_totals.new.text) _ _ c.in_ok-put_totals-2.ensures c.in_ok-put_held.ensures))))))
