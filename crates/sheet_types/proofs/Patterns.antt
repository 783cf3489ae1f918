-- Texts that fit a pattern.
use Rattle.std.proofs.Common.{◌≡◌, ◌≢◌, ℕ, List, [], ◌∷◌, length, ◌&&◌, ◌==◌, nat_le}
use Rattle.std.proofs.Common.{false, if◌then◌else◌, refl, arith}
use Rattle.std.proofs.lemmas.Bool.{and_right}
use Rattle.sheet_types.specs.Texts.{fits_pattern}

-- a text of another length does not fit
pub other_length : (p t : List ℕ) → length t ≢ length p → fits_pattern p t ≡ false
other_length [] [] h = absurd (h refl)
other_length [] (c ∷ cs) h = refl
other_length (p ∷ ps) [] h = refl
other_length (p ∷ ps) (c ∷ cs) h =
    let shorter : length cs ≢ length ps = omega arith in
    let rest : fits_pattern ps cs ≡ false = other_length ps cs shorter in
    rw rest (and_right (if p == 68 then nat_le 48 c && nat_le c 57 else c == p) false refl)
