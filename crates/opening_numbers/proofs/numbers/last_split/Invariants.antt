use Rattle.std.proofs.Common.{take}
use Rattle.opening_faults.specs.Copies.{copies_of}
use Rattle.opening_numbers.specs.Numbers.{Among, IsLast, IsOfSplit}
use Rattle.opening_numbers.proofs.numbers.last_split.Given as goal

-- of those so far
abbrev pub invariant-loop-split : goal.invariant-loop-split
invariant-loop-split l = IsLast (Among (λ split. IsOfSplit l.fn.id l.fn.loans (copies_of l.counts split) split)
    (take l.split-index l.splits)) l.last
