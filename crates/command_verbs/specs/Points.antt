-- Numbers in units, with at most three decimals, as thousandths. Profile.
use Rattle.std.specs.Prelude.{◌≡◌, ◌⊎◌, ◌-◌, ℕ, Bool, ◌&&◌, nat_le, List, [], ◌∷◌}
use Rattle.std.specs.Prelude.{◌++◌, ℤ, pos, ◌+ℤ◌, ◌-ℤ◌, ◌*ℤ◌}
use Rattle.std.specs.Prelude.{◌≤ℤ◌, Option, Some, None}
use Rattle.std.specs.Bool.{then_some}
use Rattle.std.specs.Fmt.{signed_decimal}
use Rattle.sheet_types.specs.declared.frame.Ground.{Ground}
use Rattle.command_verbs.specs.Areas.{IsNatural}
use Rattle.command_verbs.specs.declared.points.Point.{Point}

abbrev pub is_digit : ℕ → Bool
is_digit c = nat_le 48 c && nat_le c 57

abbrev pub digit_of : ℕ → ℤ
digit_of c = pos (c - 48)

-- one to three digits behind the point, as thousandths
abbrev pub fraction : List ℕ → Option ℤ
fraction [] = None
fraction (a ∷ []) = then_some (is_digit a) (digit_of a *ℤ pos 100)
fraction (a ∷ b ∷ []) = then_some (is_digit a && is_digit b) (digit_of a *ℤ pos 100 +ℤ digit_of b *ℤ pos 10)
fraction (a ∷ b ∷ c ∷ []) =
    then_some (is_digit a && is_digit b && is_digit c) (digit_of a *ℤ pos 100 +ℤ digit_of b *ℤ pos 10 +ℤ
    digit_of c)
fraction (a ∷ b ∷ c ∷ d ∷ more) = None

abbrev pub is_small : ℤ → Type 0
is_small n = (pos 0 ≤ℤ n) × (n ≤ℤ pos 30000)

-- a whole number of units
abbrev pub most_units : ℤ
most_units = pos 1000000000000

abbrev pub IsWhole : List ℕ → ℤ → Type 0
IsWhole text units = IsNatural text units × (units ≤ℤ most_units)

-- the same with a fraction behind a point
pub record IsBroken (text : List ℕ) (n : ℤ) : Type 0 where
  pub front : List ℕ
  pub digits : List ℕ
  pub units : ℤ
  pub part : ℤ
  pub written : text ≡ front ++ (46 ∷ digits)
  pub whole : IsWhole front units
  pub broken : fraction digits ≡ Some part
  pub value : n ≡ (units *ℤ pos 1000) +ℤ part

-- a number from 0 on, in thousandths
abbrev pub IsSize : List ℕ → ℤ → Type 0
IsSize text n = ((units : ℤ) × IsWhole text units × (n ≡ units *ℤ pos 1000)) ⊎ IsBroken text n

-- the same, or behind a minus
abbrev pub IsUnits : List ℕ → ℤ → Type 0
IsUnits text n = IsSize text n ⊎ ((rest : List ℕ) × (size : ℤ) × (text ≡ 45 ∷ rest) × IsSize rest size
    × (n ≡ pos 0 -ℤ size))

-- X,Y
pub record IsPoint (text : List ℕ) (p : Point) : Type 0 where
  pub across : List ℕ
  pub up : List ℕ
  pub written : text ≡ across ++ (44 ∷ up)
  pub x : IsUnits across p.x
  pub y : IsUnits up p.y

-- WEST,SOUTH,EAST,NORTH
pub record IsBox (text : List ℕ) (g : Ground) : Type 0 where
  pub west : List ℕ
  pub south : List ℕ
  pub rest : List ℕ
  pub written : text ≡ west ++ (44 ∷ (south ++ (44 ∷ rest)))
  pub left : IsUnits west g.west
  pub bottom : IsUnits south g.south
  pub corner : IsPoint rest (record { x = g.east; y = g.north })
