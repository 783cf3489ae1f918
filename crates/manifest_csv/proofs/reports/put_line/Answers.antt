-- The pieces in turn.
use Rattle.std.proofs.Common.{append_assoc}
use Rattle.manifest_csv.proofs.reports.put_line.Goals as goal

pub returns-clause-text : goal.returns-clause-text
returns-clause-text c =
    rw (
      c.put-8.ensures.bytes,
      c.put-7.ensures.bytes,
      c.put-6.ensures.bytes,
      c.put-5.ensures.bytes,
      c.put-4.ensures.bytes,
      c.put-3.ensures.bytes,
      c.put-2.ensures.bytes,
      c.put.ensures.bytes,
      c.clear.ensures.bytes,
      c.format.ensures.text,
      c.encode_lower.ensures.text,
      c.hyphenated.ensures,
      c.format-2.ensures.text,
      c.seq.ensures,
      c.format-3.ensures.text,
      c.refusal.ensures,
    )
    (simp append_assoc)
