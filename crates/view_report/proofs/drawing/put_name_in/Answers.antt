use Rattle.std.proofs.lemmas.Int.{to_z-of_z}
use Rattle.std.specs.Prelude.{string_bytes}
use Rattle.view_report.proofs.Texts.{onward}
use Rattle.view_report.proofs.drawing.put_name_in.Goals as goal

pub returns : goal.returns
returns c =
    (simp (to_z-of_z, c.ranges.column, c.ranges.row) at (rw (c.column_share-left.ensures, c.row_share-top.ensures) at
    c.in_ok-put_name_of.ensures))
