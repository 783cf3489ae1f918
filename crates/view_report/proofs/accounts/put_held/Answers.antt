use Rattle.std.proofs.Common.{append_assoc}
use Rattle.view_report.proofs.accounts.put_held.Goals as goal

pub returns : goal.returns
returns c = rw (c.in_ok-put-2.ensures, c.in_ok-put_sum_cells.ensures, c.in_ok-put.ensures) (simp append_assoc)
