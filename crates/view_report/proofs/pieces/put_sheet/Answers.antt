use Rattle.std.proofs.Common.{append_assoc}
use Rattle.std.proofs.lemmas.Int.{to_z-of_z}
use Rattle.view_report.proofs.pieces.put_sheet.Goals as goal

pub returns : goal.returns
returns c = rw (c.in_ok-put_place.ensures, c.in_ok-put_called.ensures)
    (simp (append_assoc, to_z-of_z, c.ranges.zoom, c.ranges.column, c.ranges.row))
