-- A frame is written in one way, and a good one within 64 bits.
use Rattle.std.proofs.Common.{◌≡◌, ◌≢◌, ℕ, zero, suc, Bool, true, false, not, ◌&&◌, List, []}
use Rattle.std.proofs.Common.{◌∷◌, length, ℤ, pos}
use Rattle.std.proofs.Common.{negsuc, ◌+ℤ◌, ◌-ℤ◌, ◌*ℤ◌, ◌≤ℤ◌, int_le, int_lt, FitsSigned}
use Rattle.std.proofs.Common.{w64, Option, Some, None}
use Rattle.std.proofs.Common.{IfNone, subst, rules, refl, sym, ap, ◌∙◌, arith}
use Rattle.std.specs.List.{AllByRecursion}
use Rattle.std.specs.Fmt.{signed_decimal}
use Rattle.std.proofs.lemmas.Fmt.{signed_decimal_injective}
use Rattle.sheet_types.specs.Reading.{numbers_text, frame_numbers, frame_text, IsInRange}
use Rattle.sheet_types.specs.declared.frame.Frame.{Frame}
use Rattle.sheet_types.proofs.Commas.{cut_once, signed_lacks}
use Rattle.std.proofs.lemmas.Bool.{and_parts}
use Rattle.std.proofs.lemmas.Int.{ints}
use Rattle.command_words.specs.Arguments.{IsFrame}
use Rattle.sheet_types.specs.declared.frame.FrameFault.{FrameFault}
use Rattle.sheet_types.specs.declared.frame.FrameFault.TheVariants.{BadSrs, BadBounds, BadTile, BadZoom, BadMatrix}
use Rattle.sheet_types.specs.declared.frame.FrameFault.TheVariants.{Uneven}
use Rattle.sheet_types.specs.Matrix.{is_within, first_row, is_good_bound, ten_to_12, divides, width_at, height_at}
use Rattle.sheet_types.specs.Matrix.{last_level, frame_fault}
use Rattle.matrix_rules.proofs.Frames.{GoodFrame, good_frame}

abbrev Fit : List ℤ → Type 0
Fit numbers = AllByRecursion (FitsSigned w64) numbers

number_once : (y z : ℤ) → FitsSigned w64 y → FitsSigned w64 z → signed_decimal y ≡ signed_decimal z
    → y ≡ z
number_once y z f g e = signed_decimal_injective y z (search rules) (search rules) e

numbers_once : (ys zs : List ℤ) → length ys ≡ length zs → Fit ys → Fit zs
    → numbers_text ys ≡ numbers_text zs → ys ≡ zs
numbers_once [] [] l f g e = refl
numbers_once [] (z ∷ zs) l f g e = absurd cc
numbers_once (y ∷ ys) [] l f g e = absurd cc
numbers_once (y ∷ []) (z ∷ []) l f g e = ap (λ n. n ∷ []) (number_once y z f.0 g.0 e)
numbers_once (y ∷ []) (z ∷ v ∷ zs) l f g e = absurd cc
numbers_once (y ∷ x ∷ ys) (z ∷ []) l f g e = absurd cc
numbers_once (y ∷ x ∷ ys) (z ∷ v ∷ zs) l f g e =
    let cut = cut_once 44 (signed_decimal y) (signed_decimal z) (numbers_text (x ∷ ys)) (numbers_text (v ∷ zs))
    (signed_lacks 44 y (omega arith)) (signed_lacks 44 z (omega arith)) e in
    let first : y ≡ z = number_once y z f.0 g.0 cut.0 in
    let rest : x ∷ ys ≡ v ∷ zs = numbers_once (x ∷ ys) (v ∷ zs) (cc) f.1 g.1 cut.1 in
    cc

-- the frame of its numbers
abbrev number_at : ℕ → List ℤ → ℤ
number_at n [] = pos 0
number_at zero (z ∷ zs) = z
number_at (suc n) (z ∷ zs) = number_at n zs

abbrev frame_from : List ℤ → Frame
frame_from zs = record {
  srs_id = number_at 0 zs;
  min_x = number_at 1 zs;
  min_y = number_at 2 zs;
  max_x = number_at 3 zs;
  max_y = number_at 4 zs;
  tile_width = number_at 5 zs;
  tile_height = number_at 6 zs;
  first_zoom = number_at 7 zs;
  levels = number_at 8 zs;
  matrix_width = number_at 9 zs;
  matrix_height = number_at 10 zs;
}

pub frame_once : (f g : Frame) → IsInRange f → IsInRange g → frame_text f ≡ frame_text g → f ≡ g
frame_once f g in_f in_g e =
    let same : frame_numbers f ≡ frame_numbers g = numbers_once (frame_numbers f) (frame_numbers g) refl in_f in_g
    e in
    ap frame_from same

-- ---- a good frame

-- no row of the table of faults is taken where all six rules hold
rules_hold : (a b c d e g : Bool) → first_row ((not a, BadSrs) ∷ (not b, BadBounds) ∷ (not c, BadTile)
    ∷ (not d, BadZoom) ∷ (not e, BadMatrix) ∷ (not g, Uneven) ∷ []) ≡ None → a ≡ true
rules_hold true b c d e g h = refl
rules_hold false b c d e g h = absurd (cc)

fits_64 : (x : ℤ) → negsuc 9223372036854775807 ≤ℤ x → x ≤ℤ pos 9223372036854775807 → FitsSigned w64 x
fits_64 x least most = search rules

-- a number of at most this size
fits_bound : (x : ℤ) → (pos 0 -ℤ ten_to_12) ≤ℤ x → x ≤ℤ ten_to_12 → FitsSigned w64 x
fits_bound x least most = fits_64 x (omega (arith, ints, least)) (omega (arith, ints, most))

-- a number that is not below 0, and not above this
fits_most : (x : ℤ) → pos 0 ≤ℤ x → x ≤ℤ pos 2000000000000 → FitsSigned w64 x
fits_most x least most = fits_64 x (omega (arith, ints, least)) (omega (arith, ints, most))

fits_srs : (x : ℤ) → is_within (negsuc 0) (pos 999999) x ≡ true → FitsSigned w64 x
fits_srs x h =
    let parts = and_parts (int_le (negsuc 0) x) (int_le x (pos 999999)) h in
    fits_64 x (omega (arith, ints, parts.0)) (omega (arith, ints, parts.1))

pub in_range : (f : Frame) → frame_fault f ≡ None → IsInRange f
in_range f h =
    let good : GoodFrame f = good_frame f (rw h refl) in
    let srs = rules_hold (is_within (negsuc 0) (pos 999999) f.srs_id)
    (is_good_bound f.min_x && is_good_bound f.min_y && is_good_bound f.max_x && is_good_bound f.max_y && int_lt
    f.min_x f.max_x && int_lt f.min_y f.max_y)
    (is_within (pos 1) (pos 4096) f.tile_width && is_within (pos 1) (pos 4096) f.tile_height)
    (int_le (pos 0) f.first_zoom && int_le (pos 1) f.levels && int_le (f.first_zoom +ℤ f.levels) (pos 21))
    (is_within (pos 1) (pos 2 *ℤ ten_to_12) f.matrix_width && is_within (pos 1) (pos 2 *ℤ ten_to_12)
    f.matrix_height)
    (divides (width_at f (last_level f) *ℤ f.tile_width) (f.max_x -ℤ f.min_x) && divides
    (height_at f (last_level f) *ℤ f.tile_height) (f.max_y -ℤ f.min_y)) h in
    let zoom : f.first_zoom ≤ℤ pos 2000000000000 = omega (arith, ints, good.levels, good.zooms) in
    let levels : f.levels ≤ℤ pos 2000000000000 = omega (arith, ints, good.first_zoom, good.zooms) in (
      fits_srs f.srs_id srs,
      (
        fits_bound f.min_x good.min_x.0 good.min_x.1,
        (
          fits_bound f.min_y good.min_y.0 good.min_y.1,
          (
            fits_bound f.max_x good.max_x.0 good.max_x.1,
            (
              fits_bound f.max_y good.max_y.0 good.max_y.1,
              (
                fits_most f.tile_width (omega (arith, ints, good.tile_width.0))
                    (omega (arith, ints, good.tile_width.1)),
                (
                  fits_most f.tile_height (omega (arith, ints, good.tile_height.0))
                      (omega (arith, ints, good.tile_height.1)),
                  (
                    fits_most f.first_zoom good.first_zoom zoom,
                    (
                      fits_most f.levels (omega (arith, ints, good.levels)) levels,
                      (
                        fits_most f.matrix_width (omega (arith, ints, good.matrix_width.0)) good.matrix_width.1,
                        (
                          fits_most f.matrix_height (omega (arith, ints, good.matrix_height.0)) good.matrix_height.1,
                          tt,
                        ),
                      ),
                    ),
                  ),
                ),
              ),
            ),
          ),
        ),
      ),
    )

-- ---- which texts are of no good frame

-- a text of no frame
pub no_good_frame : (o : Option Frame) (text : List ℕ) → ((f : Frame) → IsInRange f → text ≢ frame_text f)
    → IfNone o ((f : Frame) → ¬ IsFrame text f)
no_good_frame None text h = λ f is. h f (in_range f is.good) is.written
no_good_frame (Some g) text h = tt

-- the text of a frame that breaks a rule
pub other_frame : (g : Frame) (broken : FrameFault) (text : List ℕ) → IsInRange g → text ≡ frame_text g
    → frame_fault g ≡ Some broken → (f : Frame) → ¬ IsFrame text f
other_frame g broken text fits is bad f good =
    let same : f ≡ g = frame_once f g (in_range f good.good) fits (sym good.written ∙ is) in
    let none : frame_fault g ≡ None = subst (λ x. frame_fault x ≡ None) same good.good in
    cc
