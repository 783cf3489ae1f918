-- Which packages wait for their stores to be brought, and which of them comes first. Profile.
use Rattle.std.specs.Prelude.{◌≡◌, ⊤, ℕ, false, if◌then◌else◌, List, Option, Some, None, MatchOption}
use Rattle.std.specs.Prelude.{option_map}
use Rattle.std.specs.Prelude.{slice_get}
use Rattle.std.specs.List.{AllByRecursion}
use Rattle.sheet_types.specs.Ordered.{is_before}
use Rattle.opening_verdict.specs.declared.verdict.Kept.{Kept}
use Rattle.opening_stores.specs.declared.waiting.Waiting.{Waiting}

-- the UUID of a live package
abbrev pub uuid_kept : Option Kept → Option (List ℕ)
uuid_kept kept = option_map (λ k. k.head.uuid) kept

-- the first of what was found and what waits at a place
abbrev pub first_of : Option Waiting → ℕ → Option (List ℕ) → Option Waiting
first_of found place None = found
first_of None place (Some uuid) = Some (record { place = place; uuid = uuid })
first_of (Some first) place (Some uuid) =
    if is_before uuid first.uuid then Some (record { place = place; uuid = uuid }) else Some first

-- no other that waits comes before it
abbrev pub AreBehind : List ℕ → List (Option (List ℕ)) → Type 0
AreBehind uuid waiting =
    AllByRecursion (λ waits. MatchOption waits ⊤ (λ other. is_before other uuid ≡ false)) waiting

-- It waits at that place, and no other that waits comes before it.
pub record IsLeast (waiting : List (Option (List ℕ))) (first : Waiting) : Type 0 where
  pub there : slice_get waiting first.place ≡ Some (Some first.uuid)
  pub least : AreBehind first.uuid waiting
