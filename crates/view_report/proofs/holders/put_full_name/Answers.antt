use Rattle.std.proofs.Common.{append_assoc}
use Rattle.view_report.proofs.holders.put_full_name.Goals as goal

pub returns : goal.returns
returns c = rw (c.in_ok-put_short.ensures, c.in_ok-put_called.ensures) (simp append_assoc)
