-- The claims by which packages go out and come home: which stores live and which splits are open depends on them
-- alone. Profile.
use Rattle.std.specs.Prelude.{Bool, ◌||◌, List, filter}
use Rattle.sheet_types.specs.Opening.{Claim, claims_split, claims_merge}

-- a claim of a split or of a merge
abbrev pub is_passage : Claim → Bool
is_passage c = claims_split c || claims_merge c

-- those among claims
abbrev pub passages : List Claim → List Claim
passages claims = filter is_passage claims
