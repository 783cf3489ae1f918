-- A renumbering: pairs of an old key and its new one. Profile.
use Rattle.std.specs.Prelude.{◌≡◌, ◌<◌, ℤ, true, List, length, Option}
use Rattle.std.specs.List.{list_any, AllByRecursion, IsDistinct}
use Rattle.std.specs.Map.{keys_of, values_of, lookup}
use Rattle.std.specs.Ordering.{int_eq}
use Rattle.renumbering.specs.Keys.{AreFree}

-- the new key of an old one, if there is one
abbrev pub new_key : List (ℤ × ℤ) → ℤ → Option ℤ
new_key pairs key = lookup (int_eq key) pairs

-- each of the old keys has one new key, no two have one, and the new ones are free
pub record IsRenumbering (old used : List ℤ) (pairs : List (ℤ × ℤ)) : Type 0 where
  pub holds : (key : ℤ) → list_any (int_eq key) (keys_of pairs) ≡ list_any (int_eq key) old
  pub once : IsDistinct int_eq (keys_of pairs)
  pub free : AreFree used (values_of pairs)

-- however many free keys are taken, there are more different keys among the old ones
abbrev pub HasTooMany : List ℤ → List ℤ → Type 0
HasTooMany old used = (keys : List ℤ) → AreFree used keys → (some : List ℤ) × IsDistinct int_eq some
    × AllByRecursion (λ key. list_any (int_eq key) old ≡ true) some × (length keys < length some)
