use Rattle.std.proofs.Common.{append_assoc}
use Rattle.view_report.proofs.accounts.put_totals.Goals as goal

pub returns : goal.returns
returns c = rw (
  c.in_ok-put-4.ensures,
  c.in_ok-put_total_cell-5.ensures,
  c.in_ok-put_total_cell-4.ensures,
  c.in_ok-put_total_cell-3.ensures,
  c.in_ok-put_total_cell-2.ensures,
  c.in_ok-put_total_cell.ensures,
  c.in_ok-put-3.ensures,
  c.in_ok-put-2.ensures,
  c.in_ok-put.ensures,
) (simp append_assoc)
