-- The reference system of a good frame fits in the header of a geometry.
use Rattle.std.specs.Prelude.{◌≡◌, Bool, true, false, not, ◌&&◌, is_none, IsTrue, List, [], ◌∷◌, refl}
use Rattle.std.specs.Prelude.{ℤ, pos, negsuc}
use Rattle.std.specs.Prelude.{◌+ℤ◌, ◌-ℤ◌, ◌*ℤ◌, ◌≤ℤ◌, int_le, int_lt}
use Rattle.std.proofs.Common.{FitsSigned, arith, rules, w32, w64}
use Rattle.std.proofs.lemmas.Bool.{and_parts}
use Rattle.std.proofs.lemmas.Int.{ints}
use Rattle.sheet_types.specs.declared.frame.Frame.{Frame}
use Rattle.sheet_types.specs.declared.frame.FrameFault.{FrameFault}
use Rattle.sheet_types.specs.declared.frame.FrameFault.TheVariants.{BadSrs, BadBounds, BadTile, BadZoom, BadMatrix}
use Rattle.sheet_types.specs.declared.frame.FrameFault.TheVariants.{Uneven}
use Rattle.sheet_types.specs.Matrix.{first_row, is_within, is_good_bound, is_good_frame, divides, width_at, height_at}
use Rattle.sheet_types.specs.Matrix.{last_level, ten_to_12}
use Rattle.view_export.specs.Points.{FitsHeader}

-- the rules of a frame behind the first
abbrev other_rules : Frame → List (Bool × FrameFault)
other_rules f = (
  not (is_good_bound f.min_x && is_good_bound f.min_y && is_good_bound f.max_x && is_good_bound f.max_y && int_lt
      f.min_x f.max_x && int_lt f.min_y f.max_y),
  BadBounds,
)
    ∷ (not (is_within (pos 1) (pos 4096) f.tile_width && is_within (pos 1) (pos 4096) f.tile_height), BadTile)
    ∷ (
      not (int_le (pos 0) f.first_zoom && int_le (pos 1) f.levels && int_le (f.first_zoom +ℤ f.levels) (pos 21)),
      BadZoom,
    )
    ∷ (
      not (is_within (pos 1) (pos 2 *ℤ ten_to_12) f.matrix_width && is_within (pos 1) (pos 2 *ℤ ten_to_12)
          f.matrix_height),
      BadMatrix,
    )
    ∷ (
      not (divides (width_at f (last_level f) *ℤ f.tile_width) (f.max_x -ℤ f.min_x) && divides
          (height_at f (last_level f) *ℤ f.tile_height) (f.max_y -ℤ f.min_y)),
      Uneven,
    )
    ∷ []

first_rule : (holds : Bool) (others : List (Bool × FrameFault))
    → IsTrue (is_none (first_row ((not holds, BadSrs) ∷ others))) → holds ≡ true
first_rule true others h = refl
first_rule false others h = absurd (cc)

good_system : (f : Frame) → IsTrue (is_good_frame f) → is_within (negsuc 0) (pos 999999) f.srs_id ≡ true
good_system f good = first_rule (is_within (negsuc 0) (pos 999999) f.srs_id) (other_rules f) good

fits_32 : (x : ℤ) → negsuc 2147483647 ≤ℤ x → x ≤ℤ pos 2147483647 → FitsSigned w32 x
fits_32 x least most = search rules

fits_64 : (x : ℤ) → negsuc 9223372036854775807 ≤ℤ x → x ≤ℤ pos 9223372036854775807 → FitsSigned w64 x
fits_64 x least most = search rules

pub fits_header : (f : Frame) → IsTrue (is_good_frame f) → FitsHeader f.srs_id
fits_header f good =
    let parts = and_parts (int_le (negsuc 0) f.srs_id) (int_le f.srs_id (pos 999999)) (good_system f good) in
    fits_32 f.srs_id (omega (arith, ints, parts.0)) (omega (arith, ints, parts.1))

-- and so in a word
pub fits_word : (f : Frame) → IsTrue (is_good_frame f) → FitsSigned w64 f.srs_id
fits_word f good =
    let parts = and_parts (int_le (negsuc 0) f.srs_id) (int_le f.srs_id (pos 999999)) (good_system f good) in
    fits_64 f.srs_id (omega (arith, ints, parts.0)) (omega (arith, ints, parts.1))
