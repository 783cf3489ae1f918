use Rattle.std.specs.Prelude.{string_bytes}
use Rattle.view_report.proofs.Texts.{onward}
use Rattle.view_report.specs.Drawing.{level_text}
use Rattle.view_report.proofs.drawing.put_level.Goals as goal

pub returns : goal.returns
unfolding level_text
returns c =
    onward (string_bytes c.args.text.now) _ _ c.in_ok-put.ensures (
    onward (string_bytes c.put.new.text) _ _ c.in_ok-put_count.ensures (
    onward (string_bytes c.put_count.new.text) _ _ c.in_ok-put-2.ensures (
    onward (string_bytes c.put-2.new.text) _ _ c.in_ok-put_sides.ensures (
    onward (string_bytes c.put_sides.new.text) _ _ c.in_ok-put-3.ensures (
    onward (string_bytes c.put-3.new.text) _ _ (rw c.deref.ensures.value at c.in_ok-put_pattern_links.ensures) (
    onward (string_bytes c.put_pattern_links.new.text) _ _ c.in_ok-put-4.ensures (
    onward (string_bytes c.put-4.new.text) _ _ (rw c.as_slice.ensures at c.in_ok-put_sheets.ensures)
    c.in_ok-put-5.ensures)))))))
