use Rattle.std.proofs.Common.{take}
use Rattle.opening_stores.specs.Judged.{AreAllNoted}
use Rattle.opening_stores.proofs.remembering.known_of.Given as goal

-- those of the stores so far
abbrev pub invariant-loop-store : goal.invariant-loop-store
invariant-loop-store l = AreAllNoted l.known (take l.store-index l.seen)
