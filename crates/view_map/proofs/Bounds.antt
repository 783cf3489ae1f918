-- Sizes between bounds.
use Rattle.std.specs.Prelude.{◌≡◌, ℕ, ◌*◌, ◌/◌, ◌^◌, ◌<◌, ◌≤◌, ℤ, pos, negsuc}
use Rattle.std.specs.Prelude.{◌*ℤ◌, ◌≤ℤ◌, min, unsigned_abs}
use Rattle.std.proofs.Common.{ap, arith}
use Rattle.std.proofs.lemmas.Int.{ints}
use Rattle.std.proofs.Math.Nat.{mul-le-mul, mul-le-mul_left, mul-le-mul_right, div-le_self}
use Rattle.matrix_rules.specs.Axes.{axes}
use Rattle.matrix_rules.specs.declared.axis.Axes.{Axes}
use Rattle.sheet_types.specs.declared.frame.Frame.{Frame}
use Rattle.view_map.specs.Layout.{layout_of, side}
use Rattle.view_map.specs.declared.layout.Layout.{Layout}

-- a span of the ground, as a number that is not negative
pub span_range : (z : ℤ) → pos 1 ≤ℤ z → z ≤ℤ pos 2000000000000 → (1 ≤ unsigned_abs z)
    × (unsigned_abs z ≤ 2000000000000)
span_range (pos n) low high = (omega (arith, ints, low), omega (arith, ints, high))
span_range (negsuc n) low high = absurd (omega (arith, ints, low))

pub product_range : (a b : ℤ) (most : ℕ) → pos 1 ≤ℤ a → pos 1 ≤ℤ b → (a *ℤ b) ≤ℤ pos most
    → unsigned_abs a * unsigned_abs b ≤ most
product_range (pos a) (pos b) most some more whole = omega (arith, ints, whole)
product_range (negsuc a) b most some more whole = absurd (omega (arith, ints, some))
product_range (pos a) (negsuc b) most some more whole = absurd (omega (arith, ints, more))

-- tiles of one size make up at most so much of the picture
pub extent_fits : (n own other : ℕ) → n * own ≤ 2000000000000 → n * side own other ≤ 48000000000000
extent_fits n own other whole =
    let quotient : (24 * own) / min own other ≤ 24 * own = div-le_self (24 * own) (min own other) in
    let grown : n * ((24 * own) / min own other) ≤ n * (24 * own) = mul-le-mul_left n quotient in
    omega (arith, grown, whole)

-- fewer places reach no farther
pub product_below : (n m w most : ℕ) → n ≤ m → m * w ≤ most → n * w ≤ most
product_below n m w most few whole =
    let less : n * w ≤ m * w = mul-le-mul_right w few in
    omega (arith, less, whole)

-- a product of two numbers of 64 bits
pub product_of_words : (a b : ℕ) → a < 2 ^ 64 → b < 2 ^ 64 → a * b ≤ 340282366920938463426481119284349108225
product_of_words a b a_fits b_fits =
    let most : a * b ≤ 18446744073709551615 * 18446744073709551615 =
    mul-le-mul {n₁ = a} {m₁ = b} {n₂ = 18446744073709551615} {m₂ = 18446744073709551615}
    (omega (arith, a_fits)) (omega (arith, b_fits)) in
    omega (arith, most)

-- the layout by the two axes
abbrev layout_by : Axes → Layout
layout_by a = record {
  columns = unsigned_abs a.across.tiles;
  rows = unsigned_abs a.down.tiles;
  width = side (unsigned_abs a.across.span) (unsigned_abs a.down.span);
  height = side (unsigned_abs a.down.span) (unsigned_abs a.across.span);
}

pub of_axes : (f : Frame) (zoom : ℤ) (a : Axes) → a ≡ axes f zoom → layout_by a ≡ layout_of f zoom
of_axes f zoom a same = ap layout_by same
