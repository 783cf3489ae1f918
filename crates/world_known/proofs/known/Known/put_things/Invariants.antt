use Rattle.std.proofs.Common.{take, Contains}
use Rattle.std.specs.List.{AllByRecursion}
use Rattle.world_known.specs.Known.{Grows}
use Rattle.world_known.proofs.known.Known.put_things.Given as goal

-- each so far
abbrev pub invariant-loop-thing : goal.invariant-loop-thing
invariant-loop-thing l = record {
  known : AllByRecursion (λ m. Contains l.self m.base) (take l.thing-index l.things);
  grows : Grows l.fn.self l.self;
}
