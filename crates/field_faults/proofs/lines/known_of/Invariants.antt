use Rattle.std.proofs.Common.{take}
use Rattle.field_faults.specs.Lines.{IsKnownIn}
use Rattle.field_faults.proofs.lines.known_of.Given as goal

-- those so far
abbrev pub invariant-loop-item : goal.invariant-loop-item
invariant-loop-item l = IsKnownIn (take l.item-index l.items) l.known
