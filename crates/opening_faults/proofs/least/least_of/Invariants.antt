use Rattle.std.proofs.Common.{take}
use Rattle.opening_faults.specs.Least.{IsLeastOf}
use Rattle.opening_faults.proofs.least.least_of.Given as goal

-- the least so far
abbrev pub invariant-loop-id : goal.invariant-loop-id
invariant-loop-id l = IsLeastOf l.least (take l.id-index l.ids)
