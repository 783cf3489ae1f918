use Rattle.std.proofs.Common.{append_assoc}
use Rattle.view_report.proofs.pieces.put_sums.Goals as goal

pub returns : goal.returns
returns c = rw (
  c.in_ok-put_amount-4.ensures,
  c.in_ok-put_amount-3.ensures,
  c.in_ok-put_amount-2.ensures,
  c.in_ok-put_amount.ensures,
) (simp append_assoc)
