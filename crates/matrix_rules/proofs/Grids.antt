-- One axis of a frame at one level: so many tiles of equal span make up the extent.
use Rattle.std.specs.Prelude.{◌≡◌, ℕ, zero, suc, ◌+◌, ◌-◌, ◌*◌, ◌/◌, ◌%◌, ◌^◌}
use Rattle.std.specs.Prelude.{◌<◌, ◌≤◌, true, ℤ, pos, negsuc, ◌+ℤ◌, ◌-ℤ◌, ◌*ℤ◌}
use Rattle.std.specs.Prelude.{◌≤ℤ◌, ◌<ℤ◌, int_div, int_le, unsigned_abs, refl}
use Rattle.std.proofs.Common.{arith, ap, sym, ◌∙◌}
use Rattle.std.proofs.lemmas.Bool.{and_parts, leb-true}
use Rattle.std.proofs.lemmas.Int.{ints}
use Rattle.std.proofs.lemmas.Nat.{pow-add}
use Rattle.std.proofs.Math.Nat.{mul_comm, mul-mod_right, div-add-mod, mul-le-mul_left}
use Rattle.sheet_types.specs.declared.frame.Frame.{Frame}
use Rattle.sheet_types.specs.Matrix.{divides, width_at, height_at, level_of, last_level, has_level, tile_span_x}
use Rattle.sheet_types.specs.Matrix.{tile_span_y}
use Rattle.matrix_rules.proofs.Frames.{GoodFrame, level_range}

-- the axis from low to high has `tiles` tiles of this span, each of `tile` pixels
pub record Grid (low high tiles tile span : ℤ) : Type 0 where
  pub count : ℕ
  pub size : ℕ
  pub one : 0 < count
  pub few : count ≤ 2000000000000
  pub long : 0 < size
  pub short : size ≤ 2000000000000
  pub pixels : (tiles *ℤ tile) ≤ℤ (high -ℤ low)
  pub tiles_is : tiles ≡ pos count
  pub span_is : span ≡ pos size
  pub whole : high ≡ low +ℤ pos (count * size)
  pub most : count * size ≤ 2000000000000

outwards : (w a b t q : ℕ) → (w * (a * b) * t) * q ≡ (w * a * t) * (b * q)
outwards w a b t q = omega arith

inwards : (w a t q : ℕ) → (w * a) * (t * q) ≡ (w * a * t) * q
inwards w a t q = omega arith

-- what divides the number of pixels of a finer level divides that of a coarser one
coarser : (e w t k j : ℕ) → e % (w * 2 ^ (k + j) * t) ≡ 0 → (w * 2 ^ k) * (t * (e / (w * 2 ^ k * t))) ≡ e
coarser e w t k j even =
    let q : ℕ = e / (w * 2 ^ (k + j) * t) in
    let fine : e ≡ (w * 2 ^ (k + j) * t) * q = omega (arith, div-add-mod e (w * 2 ^ (k + j) * t)) in
    let power : (w * 2 ^ (k + j) * t) * q ≡ (w * (2 ^ k * 2 ^ j) * t) * q =
    ap (λ x. (w * x * t) * q) (pow-add 2 k j) in
    let parts : e ≡ (w * 2 ^ k * t) * (2 ^ j * q) = fine ∙ power ∙ outwards w (2 ^ k) (2 ^ j) t q in
    let rest : e % (w * 2 ^ k * t) ≡ 0 = ap (λ x. x % (w * 2 ^ k * t)) parts
    ∙ mul-mod_right (w * 2 ^ k * t) (2 ^ j * q) in
    let split : (w * 2 ^ k * t) * (e / (w * 2 ^ k * t)) + e % (w * 2 ^ k * t) ≡ e = div-add-mod e (w * 2 ^ k * t) in
    inwards w (2 ^ k) t (e / (w * 2 ^ k * t)) ∙ omega arith

positive_left : (a b : ℕ) → 0 < a * b → 0 < a
positive_left zero b h = absurd (omega arith)
positive_left (suc a) b h = omega arith

positive_right : (a b : ℕ) → 0 < a * b → 0 < b
positive_right a zero h = absurd (omega arith)
positive_right a (suc b) h = omega arith

-- one of several equal parts is no more than the whole
one_part : (d q e : ℕ) → d * q ≡ e → 0 < e → d ≤ e
one_part d q e all some =
    let more : 0 < q = positive_right d q (omega arith) in
    let grown : d * 1 ≤ d * q = mul-le-mul_left d more in
    omega arith

-- the same of the pixels at the last level, as a frame's rule says it
pub grid_of : (low high extent tile matrix : ℤ) (last k : ℕ) → extent ≡ high -ℤ low → pos 0 <ℤ extent
    → extent ≤ℤ pos 2000000000000 → pos 1 ≤ℤ tile → pos 1 ≤ℤ matrix → k ≤ last
    → divides (matrix *ℤ pos (2 ^ last) *ℤ tile) extent ≡ true
    → Grid low high (matrix *ℤ pos (2 ^ k)) tile (tile *ℤ int_div extent (matrix *ℤ pos (2 ^ k) *ℤ tile))
grid_of low high (pos e) (pos t) (pos w) last k is positive most tile matrix below even =
    let parts = and_parts (int_le (pos 0) (pos (e % (w * 2 ^ last * t))))
    (int_le (pos (e % (w * 2 ^ last * t))) (pos 0)) even in
    let upper : e % (w * 2 ^ last * t) ≤ 0 = leb-true _ _ parts.1 in
    let e_most : e ≤ 2000000000000 = omega (arith, ints, most) in
    let none : e % (w * 2 ^ last * t) ≡ 0 = omega arith in
    let sum : k + (last - k) ≡ last = omega arith in
    let finer : e % (w * 2 ^ (k + (last - k)) * t) ≡ 0 = ap (λ x. e % (w * 2 ^ x * t)) sum ∙ none in
    let all : (w * 2 ^ k) * (t * (e / (w * 2 ^ k * t))) ≡ e = coarser e w t k (last - k) finer in
    let some : 0 < (w * 2 ^ k) * (t * (e / (w * 2 ^ k * t))) = omega (arith, ints, all, positive) in
    let part : w * 2 ^ k * t ≤ e = one_part (w * 2 ^ k * t) (e / (w * 2 ^ k * t)) e
    (sym (inwards w (2 ^ k) t (e / (w * 2 ^ k * t))) ∙ all) (omega (arith, ints, positive)) in
    record {
      count = w * 2 ^ k;
      size = t * (e / (w * 2 ^ k * t));
      short = omega (
        arith,
        one_part (t * (e / (w * 2 ^ k * t))) (w * 2 ^ k) e
            (mul_comm (t * (e / (w * 2 ^ k * t))) (w * 2 ^ k) ∙ all) (omega (arith, ints, positive)),
        e_most,
      );
      few = omega (
        arith,
        one_part (w * 2 ^ k) (t * (e / (w * 2 ^ k * t))) e all (omega (arith, ints, positive)),
        e_most,
      );
      one = positive_left (w * 2 ^ k) (t * (e / (w * 2 ^ k * t))) some;
      long = positive_right (w * 2 ^ k) (t * (e / (w * 2 ^ k * t))) some;
      pixels = rw (sym is) (omega (arith, ints, part));
      tiles_is = refl;
      span_is = refl;
      whole = omega (arith, ints, is, ap pos all);
      most = omega (arith, ints, all, most);
    }
grid_of low high (negsuc e) tile matrix last k is positive most tile_low matrix_low below even =
    absurd (omega (arith, ints, positive))
grid_of low high (pos e) (negsuc t) matrix last k is positive most tile_low matrix_low below even =
    absurd (omega (arith, ints, tile_low))
grid_of low high (pos e) (pos t) (negsuc w) last k is positive most tile_low matrix_low below even =
    absurd (omega (arith, ints, matrix_low))

-- how many levels below the first a zoom lies: no further than the last
depth_below : (d l : ℤ) → pos 0 ≤ℤ d → d ≤ℤ l → unsigned_abs d ≤ unsigned_abs l
depth_below (pos d) (pos l) low high = omega (arith, ints)
depth_below (pos d) (negsuc l) low high = absurd (omega (arith, ints))
depth_below (negsuc d) l low high = absurd (omega (arith, ints))

pub grid_x : (f : Frame) (zoom : ℤ) → GoodFrame f → has_level f zoom ≡ true
    → Grid f.min_x f.max_x (width_at f (level_of f zoom)) f.tile_width (tile_span_x f zoom)
grid_x f zoom good level =
    let range = level_range f zoom good level in
    grid_of f.min_x f.max_x (f.max_x -ℤ f.min_x) f.tile_width f.matrix_width (last_level f) (level_of f zoom) refl
    (omega (arith, ints)) (omega (arith, ints)) good.tile_width.0 good.matrix_width.0
    (depth_below (zoom -ℤ f.first_zoom) (f.levels -ℤ pos 1) range.0 range.1) good.even_x

pub grid_y : (f : Frame) (zoom : ℤ) → GoodFrame f → has_level f zoom ≡ true
    → Grid f.min_y f.max_y (height_at f (level_of f zoom)) f.tile_height (tile_span_y f zoom)
grid_y f zoom good level =
    let range = level_range f zoom good level in
    grid_of f.min_y f.max_y (f.max_y -ℤ f.min_y) f.tile_height f.matrix_height (last_level f) (level_of f zoom) refl
    (omega (arith, ints)) (omega (arith, ints)) good.tile_height.0 good.matrix_height.0
    (depth_below (zoom -ℤ f.first_zoom) (f.levels -ℤ pos 1) range.0 range.1) good.even_y
