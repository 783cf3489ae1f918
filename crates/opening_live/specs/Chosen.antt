-- Which packages live by what their stores say of themselves. Profile.
use Rattle.std.specs.Prelude.{ℕ, Bool, List, map, filter, zip}
use Rattle.opening_faults.specs.Sights.{is_live_store}
use Rattle.opening_faults.specs.declared.sights.Sight.{Sight}

-- whether each lives, by what all say of themselves
abbrev pub live_flags : List Sight → List Bool
live_flags sights = map (is_live_store sights) sights

-- of a list those at whose place a flag stands
abbrev pub flagged : {X : Type 0} → List Bool → List X → List X
flagged flags xs = map (λ p. p.0) (filter (λ p. p.1) (zip xs flags))

-- the packages whose stores live
abbrev pub live_packages : List Sight → List (List ℕ) → List (List ℕ)
live_packages sights packages = flagged (live_flags sights) packages
