use Rattle.std.proofs.lemmas.Int.{to_z-of_z}
use Rattle.std.specs.Prelude.{string_bytes}
use Rattle.view_report.proofs.Texts.{onward}
use Rattle.view_report.proofs.drawing.put_mark_place.Goals as goal

pub returns : goal.returns
returns c =
    (simp (to_z-of_z, c.ranges.x, c.ranges.y) at (rw (c.x_share-left.ensures, c.y_share-top.ensures) at
    c.in_ok-put_style.ensures))
