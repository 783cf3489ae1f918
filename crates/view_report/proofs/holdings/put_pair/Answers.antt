use Rattle.std.proofs.Common.{append_assoc}
use Rattle.view_report.proofs.holdings.put_pair.Goals as goal

pub returns : goal.returns
returns c = rw (c.in_ok-put_thing-2.ensures, c.in_ok-put.ensures, c.in_ok-put_thing.ensures) (simp append_assoc)
