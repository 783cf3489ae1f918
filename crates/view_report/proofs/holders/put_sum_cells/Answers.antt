use Rattle.std.proofs.Common.{append_assoc}
use Rattle.view_report.proofs.holders.put_sum_cells.Goals as goal

pub returns : goal.returns
returns c = rw (
  c.in_ok-put_cell-5.ensures,
  c.in_ok-put_cell-4.ensures,
  c.in_ok-put_cell-3.ensures,
  c.in_ok-put_cell-2.ensures,
  c.in_ok-put_cell.ensures,
) (simp append_assoc)
