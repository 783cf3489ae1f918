-- Local keys of a kind, and which of them are free. Profile.
use Rattle.std.specs.Prelude.{◌≡◌, ℤ, pos, true, false, List}
use Rattle.std.specs.List.{list_any, AllByRecursion, IsDistinct}
use Rattle.std.specs.Ordering.{int_eq}
use Rattle.sheet_types.specs.Matrix.{is_within}

-- a key from 1 to 1,000,000 that is not used
abbrev pub IsFree : List ℤ → ℤ → Type 0
IsFree used key = (is_within (pos 1) (pos 1000000) key ≡ true) × (list_any (int_eq key) used ≡ false)

-- different keys that are free
pub record AreFree (used keys : List ℤ) : Type 0 where
  pub distinct : IsDistinct int_eq keys
  pub free : AllByRecursion (IsFree used) keys
