use Rattle.std.proofs.Common.{append_assoc}
use Rattle.view_report.proofs.holdings.put_tie.Goals as goal

pub returns : goal.returns
returns c = rw (
  c.in_ok-put-4.ensures,
  c.in_ok-put_pair.ensures,
  c.in_ok-put-3.ensures,
  c.in_ok-put-2.ensures,
  c.kind_word.ensures,
  c.in_ok-put.ensures,
) (simp append_assoc)
