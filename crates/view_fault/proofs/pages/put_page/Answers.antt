use Rattle.std.specs.Prelude.{string_bytes}
use Rattle.view_report.proofs.Texts.{onward}
use Rattle.view_fault.proofs.pages.put_page.Goals as goal

pub returns : goal.returns
returns c =
    onward (string_bytes c.args.text.now) _ _ c.in_ok-put.ensures (
    onward (string_bytes c.put.new.text) _ _ c.in_ok-put-2.ensures (
    onward (string_bytes c.put-2.new.text) _ _ c.in_ok-put-3.ensures (
    onward (string_bytes c.put-3.new.text) _ _ c.in_ok-put-4.ensures (
    onward (string_bytes c.put-4.new.text) _ _ (rw c.fault_name.ensures at c.in_ok-put-5.ensures) (
    onward (string_bytes c.put-5.new.text) _ _ c.in_ok-put-6.ensures (
    onward (string_bytes c.put-6.new.text) _ _ (rw c.fault_meaning.ensures at c.in_ok-put-7.ensures) (
    onward (string_bytes c.put-7.new.text) _ _ c.in_ok-put-8.ensures (
    onward (string_bytes c.put-8.new.text) _ _ c.in_ok-put_escaped.ensures (
    onward (string_bytes c.put_escaped.new.text) _ _ c.in_ok-put-9.ensures (
    onward (string_bytes c.put-9.new.text) _ _ (rw c.fault_remedy.ensures at c.in_ok-put-10.ensures) (
    onward (string_bytes c.put-10.new.text) _ _ c.in_ok-put-11.ensures (
    onward (string_bytes c.put-11.new.text) _ _ c.in_ok-put_rows.ensures c.in_ok-put-12.ensures))))))))))))
