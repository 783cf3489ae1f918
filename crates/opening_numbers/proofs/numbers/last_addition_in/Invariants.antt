use Rattle.std.proofs.Common.{take}
use Rattle.opening_numbers.specs.Numbers.{Among, IsLast, IsOfAddition}
use Rattle.opening_numbers.proofs.numbers.last_addition_in.Given as goal

-- of those so far
abbrev pub invariant-loop-claim : goal.invariant-loop-claim
invariant-loop-claim l = IsLast (Among (IsOfAddition l.fn.id) (take l.claim-index l.claims)) l.last
