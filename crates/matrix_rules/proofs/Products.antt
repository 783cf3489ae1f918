-- Products and powers between bounds.
use Rattle.std.specs.Prelude.{◌≡◌, ℕ, ◌*◌, ◌^◌, ◌<◌, ◌≤◌, ℤ, pos, negsuc, ◌*ℤ◌}
use Rattle.std.specs.Prelude.{◌≤ℤ◌, unsigned_abs, int_div, ◌/◌, ◌+◌}
use mir.Syntax.{Width}
use mir.Val.{hbits}
use Rattle.std.proofs.Common.{arith, FitsSigned, ◌%◌, w64, to_z, of_z, lit<}
use Rattle.std.proofs.lemmas.Int.{ints, to_z_pos}
use Rattle.std.proofs.lemmas.Nat.{pow_pos, one_shl}
use Rattle.std.proofs.Math.Nat.{mul-le-mul, mul-le-mul_right, pow-le-pow_right, div-le_self, div-add-mod}

-- a product of two numbers from 1 on
pub product_range : (a b : ℤ) (m n : ℕ) → pos 1 ≤ℤ a → a ≤ℤ pos m → pos 1 ≤ℤ b
    → b ≤ℤ pos n → (pos 1 ≤ℤ (a *ℤ b)) × ((a *ℤ b) ≤ℤ pos (m * n))
product_range (pos a) (pos b) m n a_low a_high b_low b_high =
    let low : 1 * 1 ≤ a * b = mul-le-mul {n₁ = 1} {m₁ = 1} {n₂ = a} {m₂ = b} (omega (arith, ints))
    (omega (arith, ints)) in
    let high : a * b ≤ m * n = mul-le-mul {n₁ = a} {m₁ = b} {n₂ = m} {m₂ = n} (omega (arith, ints))
    (omega (arith, ints)) in
    (omega (arith, ints), omega (arith, ints))
product_range (pos a) (negsuc b) m n a_low a_high b_low b_high = absurd (omega (arith, ints))
product_range (negsuc a) b m n a_low a_high b_low b_high = absurd (omega (arith, ints))

-- a power of two up to the twentieth
pub doublings_range : (t : ℤ) → pos 0 ≤ℤ t → t ≤ℤ pos 20 → (pos 1 ≤ℤ pos (2 ^ unsigned_abs t))
    × (pos (2 ^ unsigned_abs t) ≤ℤ pos 1048576)
doublings_range (pos t) low high =
    let some : 0 < 2 ^ t = pow_pos t in
    let t_high : t ≤ 20 = omega (arith, ints) in
    let most : 2 ^ t ≤ 2 ^ 20 = pow-le-pow_right {n = 2} (omega arith) t_high in
    (omega (arith, ints), omega (arith, ints))
doublings_range (negsuc t) low high = absurd (omega (arith, ints))

-- a shift of one by up to twenty
pub shifted : (t : ℤ) → pos 0 ≤ℤ t → t ≤ℤ pos 20 → to_z w64 (1 * 2 ^ of_z w64 t % 2 ^ 64)
    ≡ pos (2 ^ unsigned_abs t)
shifted (pos t) low high =
    let t_high : t ≤ 20 = omega (arith, ints) in
    let most : 2 ^ t ≤ 2 ^ 20 = pow-le-pow_right {n = 2} (omega arith) t_high in
    let whole : (1 * 2 ^ t) % 2 ^ 64 ≡ 2 ^ t = one_shl t 64 (omega arith) in
    rw whole (to_z_pos w64 (2 ^ t) (omega arith))
shifted (negsuc t) low high = absurd (omega (arith, ints))

-- a number from 0 to one that fits
pub fits_between : (w : Width) (z : ℤ) (n : ℕ) → pos 0 ≤ℤ z → z ≤ℤ pos n → n < 2 ^ hbits w
    → FitsSigned w z
fits_between w (pos z) n low high below =
    let z_high : z ≤ n = omega (arith, ints) in
    record { sfits = omega arith }
fits_between w (negsuc z) n low high below = absurd (omega (arith, ints))

-- the pixels along an axis, and the sizes of a pixel and of a tile
pub record Pixels (extent tile tiles : ℤ) : Type 0 where
  pub some : pos 1 ≤ℤ (tiles *ℤ tile)
  pub pixels : FitsSigned w64 (tiles *ℤ tile)
  pub size : FitsSigned w64 (int_div extent (tiles *ℤ tile))
  pub span : (pos 0 ≤ℤ (tile *ℤ int_div extent (tiles *ℤ tile)))
      × ((tile *ℤ int_div extent (tiles *ℤ tile)) ≤ℤ pos 2000000000000)

pub pixel_range : (extent tile tiles : ℤ) → pos 1 ≤ℤ tile → pos 1 ≤ℤ tiles
    → (tiles *ℤ tile) ≤ℤ extent → extent ≤ℤ pos 2000000000000 → Pixels extent tile tiles
pixel_range (pos e) (pos t) (pos n) tile tiles fits most =
    let e_most : e ≤ 2000000000000 = omega (arith, ints, most) in
    let t_some : 1 ≤ t = omega (arith, ints, tile) in
    let n_some : 1 ≤ n = omega (arith, ints, tiles) in
    let below : n * t ≤ e = omega (arith, ints, fits) in
    let product : 1 * 1 ≤ n * t = mul-le-mul {n₁ = 1} {m₁ = 1} {n₂ = n} {m₂ = t} n_some t_some in
    let quotient : e / (n * t) ≤ e = div-le_self e (n * t) in
    let one_tile : 1 * t ≤ n * t = mul-le-mul_right {m = 1} {n = n} t n_some in
    let grown : t * (e / (n * t)) ≤ (n * t) * (e / (n * t)) =
    mul-le-mul_right (e / (n * t)) (omega (arith, one_tile)) in
    let whole : (n * t) * (e / (n * t)) + e % (n * t) ≡ e = div-add-mod e (n * t) in
    record {
      some = omega (arith, ints, product);
      pixels = fits_between w64 (pos (n * t)) 2000000000000 (omega (arith, ints)) (omega (arith, ints, below))
          (lit< tt);
      size = fits_between w64 (pos (e / (n * t))) 2000000000000 (omega (arith, ints)) (omega (arith, ints, quotient))
          (lit< tt);
      span = (omega (arith, ints), omega (arith, ints, grown, whole));
    }
pixel_range (negsuc e) (pos t) (pos n) tile tiles fits most = absurd (omega (arith, ints, fits))
pixel_range e (pos t) (negsuc n) tile tiles fits most = absurd (omega (arith, ints, tiles))
pixel_range e (negsuc t) n tile tiles fits most = absurd (omega (arith, ints, tile))
