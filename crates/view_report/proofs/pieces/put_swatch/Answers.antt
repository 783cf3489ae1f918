use Rattle.std.proofs.Common.{append_assoc}
use Rattle.view_report.proofs.pieces.put_swatch.Goals as goal

pub returns : goal.returns
returns c = rw (
  c.in_ok-put-3.ensures,
  c.in_ok-put_count.ensures,
  c.in_ok-put-2.ensures,
  c.in_ok-put_class.ensures,
  c.in_ok-put.ensures,
) (simp append_assoc)
