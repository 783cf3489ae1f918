use Rattle.std.proofs.lemmas.Int.{to_z-of_z}
use Rattle.std.specs.Prelude.{string_bytes}
use Rattle.view_report.proofs.Texts.{onward}
use Rattle.view_report.proofs.drawing.put_mark.Goals as goal

pub returns : goal.returns
returns c =
    onward (string_bytes c.args.text.now) _ _ c.in_ok-put.ensures (
    onward (string_bytes c.put.new.text) _ _ c.in_ok-put_class.ensures (
    onward (string_bytes c.put_class.new.text) _ _ c.in_ok-put-2.ensures (
    onward (string_bytes c.put-2.new.text) _ _ c.in_ok-put_uuid.ensures (
    onward (string_bytes c.put_uuid.new.text) _ _ c.in_ok-put-3.ensures
    (simp (to_z-of_z, c.ranges.x, c.ranges.y) at c.in_ok-put_mark_place.ensures)))))
