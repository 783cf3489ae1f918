use Rattle.opening_stores.proofs.Least.{IsFirstOf}
use Rattle.opening_stores.proofs.waiting.least.Given as goal

-- the first of those so far
abbrev pub invariant-loop-place : goal.invariant-loop-place
invariant-loop-place l = record { first : IsFirstOf l.waiting l.place l.found }
