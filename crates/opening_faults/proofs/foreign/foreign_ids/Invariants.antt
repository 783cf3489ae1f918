use Rattle.std.proofs.Common.{[], take}
use Rattle.opening_faults.specs.Foreign.{Adds, IsForeign}
use Rattle.opening_faults.proofs.foreign.foreign_ids.Given as goal

-- those of the splits so far
abbrev pub invariant-loop-split : goal.invariant-loop-split
invariant-loop-split l = Adds (IsForeign l.root l.sights (take l.split-index l.splits)) [] l.ids.items
