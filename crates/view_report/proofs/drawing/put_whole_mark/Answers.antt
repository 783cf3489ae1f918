use Rattle.std.proofs.lemmas.Int.{to_z-of_z}
use Rattle.std.specs.Prelude.{string_bytes}
use Rattle.view_report.proofs.Texts.{onward}
use Rattle.view_report.specs.Drawing.{whole_mark}
use Rattle.view_report.proofs.drawing.put_whole_mark.Goals as goal

pub returns : goal.returns
unfolding whole_mark
returns c =
    onward (string_bytes c.args.text.now) _ _ (simp (to_z-of_z, c.ranges.x, c.ranges.y) at c.in_ok-put_mark.ensures)
    (simp (to_z-of_z, c.ranges.code) at c.in_ok-put_mark_end.ensures)
