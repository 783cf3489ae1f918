-- The request, the things and the target, one after the other.
use Rattle.std.proofs.Common.{subst, Contains}
use Rattle.std.specs.List.{AllByRecursion}
use Rattle.world_known.proofs.Keys.{all_grow}
use Rattle.world_known.proofs.known.Known.note.Goals as goal

pub returns-in_err-put_target-clause-grows : goal.returns-in_err-put_target-clause-grows
returns-in_err-put_target-clause-grows c = λ id is. c.put_target.ensures.grows id
    (c.put_things.ensures.grows id (c.put.ensures.grows id is))

pub returns-clause-grows : goal.returns-clause-grows
returns-clause-grows c = λ id is. c.put_target.ensures.grows id
    (c.put_things.ensures.grows id (c.put.ensures.grows id is))

pub returns-clause-notes : goal.returns-clause-notes
returns-clause-notes c = record {
  request = c.put_target.ensures.grows _ (c.put_things.ensures.grows _ c.in_ok-put.ensures.known);
  things = all_grow _ _ _ c.put_target.ensures.grows (subst (AllByRecursion
      (λ m. Contains c.put_things.new.self m.base)) c.as_slice.ensures c.in_ok-put_things.ensures.known);
  target = c.in_ok-put_target.ensures.known;
}
