use Rattle.std.proofs.Common.{append_assoc}
use Rattle.std.proofs.lemmas.Int.{to_z-of_z}
use Rattle.view_report.proofs.pieces.put_place.Goals as goal

pub returns : goal.returns
returns c = rw (
  c.in_ok-put_signed-3.ensures,
  c.in_ok-put-2.ensures,
  c.in_ok-put_signed-2.ensures,
  c.in_ok-put.ensures,
  c.in_ok-put_signed.ensures,
) (simp (
  append_assoc,
  to_z-of_z,
  c.ranges.zoom,
  c.ranges.column,
  c.ranges.row,
))
