-- The frame that was seen of the archive is that of the world.
use Rattle.std.proofs.Common.{◌≡◌, ◌∙◌, sym, ap, subst, Some}
use Rattle.opening_stores.specs.Judged.{archive_seen, AreAllNoted}
use Rattle.opening_stores.proofs.Judged.{frame_seen_is, knows_seen}
use Rattle.opening_stores.proofs.judging.judge_seen.Goals as goal

pub returns-clause-is : goal.returns-clause-is
returns-clause-is c = λ views are.
    let found : archive_seen c.args.seen.items ≡ Some c.in-Some.frame =
    sym (ap archive_seen c.deref.ensures.value) ∙ sym c.archive_frame-frame.ensures ∙ c.in-Some.is in
    let is = c.in_ok-verdict.ensures.stands views are in (
      is,
      frame_seen_is c.args.seen.items views c.in_ok-verdict.verdict c.in-Some.frame found are is,
      knows_seen
          c.in_ok-known.known c.args.seen.items views c.in_ok-verdict.verdict
          (subst (AreAllNoted c.in_ok-known.known) c.deref-2.ensures.value c.in_ok-known.ensures) are is,
    )
