use Rattle.std.proofs.lemmas.Int.{to_z-of_z}
use Rattle.std.specs.Prelude.{string_bytes}
use Rattle.view_report.proofs.Texts.{onward}
use Rattle.view_drawing.proofs.marks.put_begin.Goals as goal

pub returns : goal.returns
returns c =
    onward (string_bytes c.args.text.now) _ _ c.in_ok-put.ensures (
    onward (string_bytes c.put.new.text) _ _ c.in_ok-put_class.ensures (
    onward (string_bytes c.put_class.new.text) _ _ c.in_ok-put-2.ensures (
    onward (string_bytes c.put-2.new.text) _ _
    (simp (to_z-of_z, c.ranges.x, c.ranges.y) at c.in_ok-put_mark_place.ensures) (
    onward (string_bytes c.put_mark_place.new.text) _ _ c.in_ok-put-3.ensures (
    onward (string_bytes c.put-3.new.text) _ _ (rw c.pattern_of.ensures at c.in_ok-put_count.ensures)
    c.in_ok-put-4.ensures)))))
