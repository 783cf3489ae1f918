use Rattle.std.specs.Prelude.{string_bytes}
use Rattle.view_report.proofs.Texts.{onward}
use Rattle.view_fault.proofs.pages.put_row.Goals as goal

pub returns : goal.returns
returns c =
    onward (string_bytes c.args.text.now) _ _ c.in_ok-put.ensures (
    onward (string_bytes c.put.new.text) _ _ (rw c.row_class.ensures at c.in_ok-put-2.ensures) (
    onward (string_bytes c.put-2.new.text) _ _ c.in_ok-put-3.ensures (
    onward (string_bytes c.put-3.new.text) _ _ (rw c.fault_name.ensures at c.in_ok-put-4.ensures) (
    onward (string_bytes c.put-4.new.text) _ _ c.in_ok-put-5.ensures (
    onward (string_bytes c.put-5.new.text) _ _ (rw c.fault_meaning.ensures at c.in_ok-put-6.ensures) (
    onward (string_bytes c.put-6.new.text) _ _ c.in_ok-put-7.ensures (
    onward (string_bytes c.put-7.new.text) _ _ (rw c.state_text.ensures at c.in_ok-put-8.ensures)
    c.in_ok-put-9.ensures)))))))
