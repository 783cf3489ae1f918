use Rattle.std.proofs.lemmas.Int.{to_z-of_z}
use Rattle.std.specs.Prelude.{string_bytes}
use Rattle.view_report.proofs.Texts.{onward}
use Rattle.view_drawing.specs.Marks.{mark_text}
use Rattle.view_drawing.proofs.marks.put_mark.Goals as goal

pub returns : goal.returns
unfolding mark_text
returns c =
    onward (string_bytes c.args.text.now) _ _
    (simp (to_z-of_z, c.ranges.x, c.ranges.y) at c.in_ok-put_begin.ensures)
    (simp (to_z-of_z, c.ranges.code) at c.in_ok-put_end.ensures)
