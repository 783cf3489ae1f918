use Rattle.std.proofs.Common.{take}
use Rattle.opening_faults.specs.Foreign.{Adds, IsForeignIn}
use Rattle.opening_faults.proofs.foreign.push_foreign.Given as goal

-- those of the stores so far
abbrev pub invariant-loop-sight : goal.invariant-loop-sight
invariant-loop-sight l = Adds (IsForeignIn l.root (take l.sight-index l.sights) l.split) l.initial.ids.items l.ids.items
