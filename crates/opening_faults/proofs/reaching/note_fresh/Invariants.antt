use Rattle.std.proofs.Common.{◌≡◌, ℕ, ℤ, List, ◌||◌, take, map, filter}
use Rattle.std.specs.Prelude.{flat_map}
use Rattle.std.specs.List.{list_any}
use Rattle.opening_faults.specs.Merges.{is_above, merges_after}
use Rattle.opening_faults.specs.Standings.{is_fresh}
use Rattle.opening_faults.specs.Sights.{claims_seen}
use Rattle.opening_faults.specs.declared.sights.Sight.{Sight}
use Rattle.opening_faults.specs.declared.standing.Standing.{Standing}
use Rattle.opening_faults.proofs.reaching.note_fresh.Given as goal

-- the merges of those so far are noted
abbrev pub invariant-loop-place : goal.invariant-loop-place
invariant-loop-place l = (t : Sight → Standing) → l.standings ≡ map t l.sights → (source : List ℕ) (n : ℤ)
    → is_above l.merges source n ≡ (is_above l.initial.merges source n || list_any (merges_after source n)
    (flat_map claims_seen (filter (λ s. is_fresh (t s)) (take l.place l.sights))))
