-- What a live package answers. Profile.
use Rattle.std.specs.Prelude.{◌≡◌, ℕ, true, false, List, Option, Some, None}
use Rattle.sheet_types.specs.World.{Package, World, holdings, is_live}

-- The answer of the package of this UUID where it is live; none where it is not.
abbrev pub IsAnswer : {A : Type 0} → (Package → A → Type 0) → World → List ℕ → Option A → Type 0
IsAnswer Tells w id None = is_live w id ≡ false
IsAnswer Tells w id (Some x) = (is_live w id ≡ true) × Tells (holdings w id) x
