use Rattle.std.proofs.Common.{◌≡◌, ◌||◌, filter}
use Rattle.opening_faults.specs.Sights.{is_root}
use Rattle.opening_faults.specs.Splits.{is_lent_in}
use Rattle.opening_live.proofs.naming.those_named.Given as goal

-- those of the stores so far
abbrev pub invariant-loop-sight : goal.invariant-loop-sight
invariant-loop-sight l = l.chosen.items ≡ filter (λ s. is_root s || is_lent_in l.loans s) l.yielded
