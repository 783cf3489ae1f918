use Rattle.std.proofs.Common.{refl}
use Rattle.json.proofs.OnLiterals.{json_on_literals}
use Rattle.view_report.proofs.digests.write_receipt.Goals as goal

-- The tokens are those that the text of the object has.
pub returns-clause-text : goal.returns-clause-text
unfolding json_on_literals
returns-clause-text c = rw (
  c.in_ok-end_object.ensures.ok,
  c.in_ok-write_end-3.ensures.tokens,
  c.in_ok-write_count-7.ensures.tokens,
  c.in_ok-write_count-6.ensures.tokens,
  c.in_ok-write_count-5.ensures.tokens,
  c.in_ok-write_end-2.ensures.tokens,
  c.in_ok-write_count-4.ensures.tokens,
  c.in_ok-write_count-3.ensures.tokens,
  c.in_ok-write_text-2.ensures.tokens,
  c.in_ok-write_count-2.ensures.tokens,
  c.in_ok-write_end.ensures.tokens,
  c.in_ok-write_count.ensures.tokens,
  c.in_ok-write_text.ensures.tokens,
  c.in_ok-begin_object.ensures.ok,
  c.requires,
  c.as_str.ensures,
  c.as_str-2.ensures,
  c.thing_count.ensures,
) refl
