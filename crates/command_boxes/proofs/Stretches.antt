-- Equal tiles along an axis, and a stretch of it.
use Rattle.std.specs.Prelude.{◌≡◌, ℕ, ◌+◌, ◌-◌, ◌*◌, ◌/◌, ◌<◌, ◌≤◌, ℤ, pos}
use Rattle.std.specs.Prelude.{negsuc, ◌+ℤ◌, ◌-ℤ◌, ◌*ℤ◌, ◌≤ℤ◌, ◌<ℤ◌}
use Rattle.std.specs.Prelude.{int_div}
use Rattle.std.proofs.Common.{arith}
use Rattle.std.proofs.lemmas.Int.{ints}
use Rattle.std.proofs.Math.Nat.{div-lt_iff_lt-mul, div-mul-le_self, lt-div-mul-add, lt_of_mul-lt-mul_right}
use Rattle.command_boxes.specs.Covering.{IsStretch}

-- a tile that begins no later than another ends is no later
no_later : (a b s : ℕ) → a * s < b * s + s → a ≤ b
no_later a b s h =
    let next : (b + 1) * s ≡ b * s + s = omega arith in
    let less : a * s < (b + 1) * s = omega arith in
    let below : a < b + 1 = lt_of_mul-lt-mul_right s less in
    omega arith

-- the stretch in natural numbers
stretch : (t s l h : ℕ) → 0 < s → l < h → h ≤ t * s
    → IsStretch (pos t) (pos s) (pos l) (pos h) (pos (l / s)) (pos ((h - 1) / s))
stretch t s l h some less most =
    let low : l / s * s ≤ l = div-mul-le_self l s in
    let low_end : l < l / s * s + s = lt-div-mul-add some in
    let high : (h - 1) / s * s ≤ h - 1 = div-mul-le_self (h - 1) s in
    let high_end : h - 1 < (h - 1) / s * s + s = lt-div-mul-add some in
    let first_next : (l / s + 1) * s ≡ l / s * s + s = omega arith in
    let last_next : ((h - 1) / s + 1) * s ≡ (h - 1) / s * s + s = omega arith in
    let order : l / s ≤ (h - 1) / s = no_later (l / s) ((h - 1) / s) s (omega arith) in
    let top : h - 1 < t * s = omega arith in
    let below : (h - 1) / s < t = (div-lt_iff_lt-mul some).1 top in
    record {
      begins = (omega (arith, ints), omega (arith, ints));
      ends = (omega (arith, ints), omega (arith, ints));
      within = (omega (arith, ints), omega (arith, ints), omega (arith, ints));
    }

pub stretch_of : (tiles span low high : ℤ) → pos 1 ≤ℤ tiles → pos 1 ≤ℤ span → pos 0 ≤ℤ low
    → low <ℤ high
    → high ≤ℤ (tiles *ℤ span)
    → IsStretch tiles span low high (int_div low span) (int_div (high -ℤ pos 1) span)
stretch_of (pos t) (pos s) (pos l) (pos h) many some start less most =
    let one : l < h = omega (arith, ints, less) in
    let front : pos h -ℤ pos 1 ≡ pos (h - 1) = omega (arith, ints) in
    let all : h ≤ t * s = omega (arith, ints, most) in
    rw front (stretch t s l h (omega (arith, ints, some)) one all)
stretch_of (negsuc t) span low high many some start less most = absurd (omega (arith, ints, many))
stretch_of (pos t) (negsuc s) low high many some start less most = absurd (omega (arith, ints, some))
stretch_of (pos t) (pos s) (negsuc l) high many some start less most = absurd (omega (arith, ints, start))
stretch_of (pos t) (pos s) (pos l) (negsuc h) many some start less most = absurd (omega (arith, ints, less))

-- of two tiles, where the first begins no later than a point before which the second does not end
pub is_no_later : (a b span at : ℤ) → pos 1 ≤ℤ span → pos 0 ≤ℤ b → (a *ℤ span) ≤ℤ at
    → at <ℤ ((b +ℤ pos 1) *ℤ span)
    → a ≤ℤ b
is_no_later (pos a) (pos b) (pos s) at some low begins ends =
    let next : (b + 1) * s ≡ b * s + s = omega arith in
    let less : a * s < b * s + s = omega (arith, ints, begins, ends) in
    omega (arith, ints, no_later a b s less)
is_no_later (negsuc a) (pos b) span at some low begins ends = omega (arith, ints)
is_no_later a (negsuc b) span at some low begins ends = absurd (omega (arith, ints, low))
is_no_later (pos a) (pos b) (negsuc s) at some low begins ends = absurd (omega (arith, ints, some))
