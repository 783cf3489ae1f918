-- What the words for sheets say. Profile.
use Rattle.std.specs.Prelude.{◌≡◌, ◌⊎◌, ◌==◌, ◌∷◌, ◌++◌, ℕ, List, false, ℤ, pos}
use Rattle.std.specs.Prelude.{◌≤ℤ◌, FitsSigned}
use Rattle.std.specs.Int.{w64}
use Rattle.std.specs.List.{AllByRecursion}
use Rattle.std.specs.Fmt.{signed_decimal}
use Rattle.sheet_types.specs.declared.frame.Rect.{Rect}
use Rattle.command_verbs.specs.declared.areas.Place.{Place}

-- none of the bytes is this one
abbrev pub Lacks : ℕ → List ℕ → Type 0
Lacks mark text = AllByRecursion (λ b. (b == mark) ≡ false) text

-- what stands before the first such byte, and what stands behind it
abbrev pub IsCut : ℕ → List ℕ → List ℕ → List ℕ → Type 0
IsCut mark text front back = (text ≡ front ++ (mark ∷ back)) × Lacks mark front

-- three texts with a slash between each and the next
abbrev pub slashed : List ℕ → List ℕ → List ℕ → List ℕ
slashed one two three = one ++ (47 ∷ (two ++ (47 ∷ three)))

-- a text of three, of which the first two have no slash
abbrev pub IsCutInThree : List ℕ → List ℕ → List ℕ → List ℕ → Type 0
IsCutInThree text one two three = (text ≡ slashed one two three) × Lacks 47 one × Lacks 47 two

-- a number from 0 on, in plain decimal
abbrev pub IsNatural : List ℕ → ℤ → Type 0
IsNatural text number = (text ≡ signed_decimal number) × (pos 0 ≤ℤ number)

-- both ends with a hyphen between them
abbrev pub AreTwoEnds : List ℕ → ℤ → ℤ → Type 0
AreTwoEnds text first last =
    (text ≡ signed_decimal first ++ (45 ∷ signed_decimal last)) × (pos 0 ≤ℤ first) × (pos 0 ≤ℤ last)

-- the same, or one number, which is both
abbrev pub AreEnds : List ℕ → ℤ → ℤ → Type 0
AreEnds text first last = (IsNatural text first × (last ≡ first)) ⊎ AreTwoEnds text first last

-- ZOOM/COLUMNS/ROWS
pub record IsArea (text : List ℕ) (r : Rect) : Type 0 where
  pub columns : List ℕ
  pub rows : List ℕ
  pub written : text ≡ slashed (signed_decimal r.zoom) columns rows
  pub zoom : pos 0 ≤ℤ r.zoom
  pub across : AreEnds columns r.column r.last_column
  pub down : AreEnds rows r.row r.last_row

-- each of its numbers fits 64 bits
pub record FitsWords (r : Rect) : Type 0 where
  pub zoom : FitsSigned w64 r.zoom
  pub column : FitsSigned w64 r.column
  pub last_column : FitsSigned w64 r.last_column
  pub row : FitsSigned w64 r.row
  pub last_row : FitsSigned w64 r.last_row

-- ZOOM/COLUMN/ROW
pub record IsPlace (text : List ℕ) (p : Place) : Type 0 where
  pub written : text ≡ slashed (signed_decimal p.zoom) (signed_decimal p.column) (signed_decimal p.row)
  pub zoom : pos 0 ≤ℤ p.zoom
  pub column : pos 0 ≤ℤ p.column
  pub row : pos 0 ≤ℤ p.row

pub record PlaceFits (p : Place) : Type 0 where
  pub zoom : FitsSigned w64 p.zoom
  pub column : FitsSigned w64 p.column
  pub row : FitsSigned w64 p.row
