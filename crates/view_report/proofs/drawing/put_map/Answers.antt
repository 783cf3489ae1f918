use Rattle.std.specs.Prelude.{string_bytes}
use Rattle.view_report.proofs.Texts.{onward}
use Rattle.view_report.proofs.drawing.put_map.Goals as goal

pub returns : goal.returns
returns c =
    onward (string_bytes c.args.text.now) _ _ c.in_ok-put.ensures (
    onward (string_bytes c.put.new.text) _ _ (rw c.finest_of-finest.ensures at c.in_ok-put_sides.ensures) (
    onward (string_bytes c.put_sides.new.text) _ _ c.in_ok-put-2.ensures (
    onward (string_bytes c.put-2.new.text) _ _ (rw c.level_total-total.ensures at c.in_ok-put_levels.ensures) (
    onward (string_bytes c.put_levels.new.text) _ _ (rw c.level_total-total.ensures at
    c.in_ok-put_first_names.ensures) (
    onward (string_bytes c.put_first_names.new.text) _ _ (rw c.as_slice.ensures at c.in_ok-put_marks.ensures) (
    onward (string_bytes c.put_marks.new.text) _ _ c.in_ok-put-3.ensures (
    onward (string_bytes c.put-3.new.text) _ _ c.in_ok-put_legends.ensures c.in_ok-put-4.ensures)))))))
