use Rattle.std.proofs.Common.{◌≡◌, take, map}
use Rattle.opening_faults.specs.Merges.{is_open_by}
use Rattle.opening_faults.specs.Splits.{splits_among}
use Rattle.opening_faults.specs.declared.sights.Sight.{Sight}
use Rattle.opening_faults.specs.declared.standing.Standing.{Standing}
use Rattle.opening_faults.proofs.reaching.open_splits.Given as goal

-- those of the stores so far
abbrev pub invariant-loop-place : goal.invariant-loop-place
invariant-loop-place l = (t : Sight → Standing) → l.standings ≡ map t l.sights
    → l.opened.items ≡ splits_among (is_open_by l.merges) t (take l.place l.sights)
