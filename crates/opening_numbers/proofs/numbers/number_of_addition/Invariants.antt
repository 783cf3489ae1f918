use Rattle.std.proofs.Common.{take}
use Rattle.opening_faults.specs.Sights.{is_live_store}
use Rattle.opening_numbers.specs.Numbers.{Among, IsLast, IsOfStore}
use Rattle.opening_numbers.proofs.numbers.number_of_addition.Given as goal

-- of the stores so far
abbrev pub invariant-loop-place : goal.invariant-loop-place
invariant-loop-place l = IsLast (Among (λ s. IsOfStore l.fn.id (is_live_store l.sights s) s) (take l.place l.sights))
    l.last
