use Rattle.std.specs.Prelude.{string_bytes}
use Rattle.view_report.proofs.Texts.{onward}
use Rattle.view_drawing.proofs.drawings.put_legend.Goals as goal

pub returns : goal.returns
returns c =
    onward (string_bytes c.args.text.now) _ _ c.in_ok-put.ensures (
    onward (string_bytes c.put.new.text) _ _ (rw c.plus.ensures at c.in_ok-put_count.ensures) (
    onward (string_bytes c.put_count.new.text) _ _ c.in_ok-put-2.ensures (
    onward (string_bytes c.put-2.new.text) _ _ (rw c.deref.ensures.value at c.in_ok-put_rows.ensures)
    c.in_ok-put-3.ensures)))
