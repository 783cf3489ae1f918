use Rattle.std.proofs.Common.{[], take}
use Rattle.opening_faults.specs.Altered.{IsAlteredIn}
use Rattle.opening_faults.specs.Foreign.{Adds}
use Rattle.opening_faults.proofs.altered.altered_ids.Given as goal

-- those of the packages so far
abbrev pub invariant-loop-holder : goal.invariant-loop-holder
invariant-loop-holder l = Adds (IsAlteredIn l.added (take l.holder-index l.holders)) [] l.ids.items
