use Rattle.std.proofs.Common.{take}
use Rattle.opening_faults.specs.Altered.{IsAlteredAmong}
use Rattle.opening_faults.specs.Foreign.{Adds}
use Rattle.opening_faults.proofs.altered.push_altered.Given as goal

-- those of the items so far
abbrev pub invariant-loop-moved : goal.invariant-loop-moved
invariant-loop-moved l = Adds (IsAlteredAmong l.added (take l.moved-index l.items)) l.initial.ids.items l.ids.items
