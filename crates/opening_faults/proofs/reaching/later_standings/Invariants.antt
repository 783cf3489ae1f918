use Rattle.std.proofs.Common.{◌≡◌, take, map}
use Rattle.opening_faults.specs.Splits.{is_lent_in}
use Rattle.opening_faults.specs.Standings.{one_later}
use Rattle.opening_faults.specs.declared.sights.Sight.{Sight}
use Rattle.opening_faults.specs.declared.standing.Standing.{Standing}
use Rattle.opening_faults.proofs.reaching.later_standings.Given as goal

-- those so far
abbrev pub invariant-loop-place : goal.invariant-loop-place
invariant-loop-place l = (t : Sight → Standing) → l.standings ≡ map t l.sights
    → l.later.items ≡ map (λ s. one_later (t s) (is_lent_in l.loans s)) (take l.place l.sights)
