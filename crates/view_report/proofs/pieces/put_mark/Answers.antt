use Rattle.std.proofs.Common.{append_assoc}
use Rattle.std.proofs.lemmas.Int.{to_z-of_z}
use Rattle.view_report.proofs.pieces.put_mark.Goals as goal

pub returns : goal.returns
returns c = rw (c.in_ok-put_label.ensures, c.in_ok-put.ensures, c.in_ok-put_signed.ensures)
    (simp (append_assoc, to_z-of_z, c.ranges.code))
