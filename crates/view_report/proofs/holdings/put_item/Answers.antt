use Rattle.std.proofs.Common.{append_assoc}
use Rattle.view_report.proofs.holdings.put_item.Goals as goal

pub returns : goal.returns
returns c = rw (
  c.in_ok-put-8.ensures,
  c.in_ok-put_digest.ensures,
  c.in_ok-put-7.ensures,
  c.in_ok-put_count.ensures,
  c.in_ok-put-6.ensures,
  c.in_ok-put_short.ensures,
  c.in_ok-put-5.ensures,
  c.in_ok-put_about.ensures,
  c.in_ok-put-4.ensures,
  c.in_ok-put-3.ensures,
  c.kind_word.ensures,
  c.thing_kind.ensures,
  c.in_ok-put-2.ensures,
  c.in_ok-put_uuid.ensures,
  c.in_ok-put.ensures,
) (simp append_assoc)
