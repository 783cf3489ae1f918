use Rattle.std.proofs.Common.{◌≡◌, ◌||◌, take, map}
use Rattle.opening_faults.specs.Sights.{is_root}
use Rattle.opening_faults.specs.Splits.{is_lent_in}
use Rattle.opening_live.proofs.naming.all_named.Given as goal

-- those so far
abbrev pub invariant-loop-sight : goal.invariant-loop-sight
invariant-loop-sight l = l.flags.items ≡ map (λ s. is_root s || is_lent_in l.loans s) (take l.sight-index l.sights)
