use Rattle.std.specs.Prelude.{string_bytes}
use Rattle.view_report.proofs.Texts.{onward}
use Rattle.view_drawing.proofs.drawings.put_map.Goals as goal

pub returns : goal.returns
returns c =
    onward (string_bytes c.args.text.now) _ _ c.in_ok-put.ensures (
    onward (string_bytes c.put.new.text) _ _ c.in_ok-put_count.ensures (
    onward (string_bytes c.put_count.new.text) _ _ c.in_ok-put-2.ensures (
    onward (string_bytes c.put-2.new.text) _ _ c.in_ok-put_levels.ensures (
    onward (string_bytes c.put_levels.new.text) _ _ c.in_ok-put_first_names.ensures (
    onward (string_bytes c.put_first_names.new.text) _ _ (rw c.as_slice.ensures at c.in_ok-put_marks.ensures)
    c.in_ok-put-3.ensures)))))
