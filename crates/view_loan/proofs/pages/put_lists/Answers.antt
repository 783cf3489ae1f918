use Rattle.std.specs.Prelude.{string_bytes}
use Rattle.view_report.proofs.Texts.{onward}
use Rattle.view_loan.proofs.pages.put_lists.Goals as goal

pub returns : goal.returns
returns c =
    onward (string_bytes c.args.text.now) _ _ c.in_ok-put.ensures (
    onward (string_bytes c.put.new.text) _ _ (rw c.as_slice.ensures at c.in_ok-put_all_lent.ensures) (
    onward (string_bytes c.put_all_lent.new.text) _ _ c.in_ok-put-2.ensures (
    onward (string_bytes c.put-2.new.text) _ _ (rw c.deref.ensures.value at c.in_ok-put_rows.ensures) (
    onward (string_bytes c.put_rows.new.text) _ _ c.in_ok-put-3.ensures (
    onward (string_bytes c.put-3.new.text) _ _ (rw c.as_slice-2.ensures at c.in_ok-put_items.ensures)
    (rw c.deref-2.ensures.value at c.in_ok-put_ties.ensures))))))
