-- What a good frame's rules say, each as a fact.
use Rattle.std.specs.Prelude.{◌≡◌, Bool, true, false, not, ◌&&◌, is_none, IsTrue, [], ◌∷◌, refl, ℤ}
use Rattle.std.specs.Prelude.{pos, negsuc, ◌+ℤ◌, ◌-ℤ◌, ◌*ℤ◌, ◌≤ℤ◌, ◌<ℤ◌, int_le}
use Rattle.std.specs.Prelude.{int_lt}
use Rattle.std.proofs.Common.{arith}
use Rattle.std.proofs.lemmas.Bool.{and_parts}
use Rattle.std.proofs.lemmas.Int.{ints}
use Rattle.sheet_types.specs.declared.frame.Frame.{Frame}
use Rattle.sheet_types.specs.declared.frame.FrameFault.TheVariants.{BadSrs, BadBounds, BadTile, BadZoom, BadMatrix}
use Rattle.sheet_types.specs.declared.frame.FrameFault.TheVariants.{Uneven}
use Rattle.sheet_types.specs.Matrix.{is_within, first_row, is_good_bound, ten_to_12, divides, width_at, height_at}
use Rattle.sheet_types.specs.Matrix.{last_level, is_good_frame, has_level}

pub record GoodFrame (f : Frame) : Type 0 where
  pub min_x : ((pos 0 -ℤ ten_to_12) ≤ℤ f.min_x) × (f.min_x ≤ℤ ten_to_12)
  pub min_y : ((pos 0 -ℤ ten_to_12) ≤ℤ f.min_y) × (f.min_y ≤ℤ ten_to_12)
  pub max_x : ((pos 0 -ℤ ten_to_12) ≤ℤ f.max_x) × (f.max_x ≤ℤ ten_to_12)
  pub max_y : ((pos 0 -ℤ ten_to_12) ≤ℤ f.max_y) × (f.max_y ≤ℤ ten_to_12)
  pub order_x : f.min_x <ℤ f.max_x
  pub order_y : f.min_y <ℤ f.max_y
  pub tile_width : (pos 1 ≤ℤ f.tile_width) × (f.tile_width ≤ℤ pos 4096)
  pub tile_height : (pos 1 ≤ℤ f.tile_height) × (f.tile_height ≤ℤ pos 4096)
  pub first_zoom : pos 0 ≤ℤ f.first_zoom
  pub levels : pos 1 ≤ℤ f.levels
  pub zooms : (f.first_zoom +ℤ f.levels) ≤ℤ pos 21
  pub matrix_width : (pos 1 ≤ℤ f.matrix_width) × (f.matrix_width ≤ℤ pos 2000000000000)
  pub matrix_height : (pos 1 ≤ℤ f.matrix_height) × (f.matrix_height ≤ℤ pos 2000000000000)
  pub even_x : divides (width_at f (last_level f) *ℤ f.tile_width) (f.max_x -ℤ f.min_x) ≡ true
  pub even_y : divides (height_at f (last_level f) *ℤ f.tile_height) (f.max_y -ℤ f.min_y) ≡ true

-- no row of the table of faults is taken where all six rules hold
rules_hold : (a b c d e g : Bool) → IsTrue (is_none (first_row
    ((not a, BadSrs) ∷ (not b, BadBounds) ∷ (not c, BadTile) ∷ (not d, BadZoom) ∷ (not e, BadMatrix)
    ∷ (not g, Uneven) ∷ [])))
    → (b ≡ true) × (c ≡ true) × (d ≡ true) × (e ≡ true) × (g ≡ true)
rules_hold true true true true true true h = (refl, refl, refl, refl, refl)
rules_hold false b c d e g h = absurd (cc)
rules_hold true false c d e g h = absurd (cc)
rules_hold true true false d e g h = absurd (cc)
rules_hold true true true false e g h = absurd (cc)
rules_hold true true true true false g h = absurd (cc)
rules_hold true true true true true false h = absurd (cc)

within : (low high x : ℤ) → is_within low high x ≡ true → (low ≤ℤ x) × (x ≤ℤ high)
within low high x h =
    let parts = and_parts (int_le low x) (int_le x high) h in
    (omega (arith, ints, parts.0), omega (arith, ints, parts.1))

pub three : (a b c : Bool) → (a && b && c) ≡ true → (a ≡ true) × (b ≡ true) × (c ≡ true)
three a b c h =
    let last = and_parts (a && b) c h in
    let first = and_parts a b last.0 in
    (first.0, first.1, last.1)

six : (a b c d e g : Bool) → (a && b && c && d && e && g) ≡ true → (a ≡ true) × (b ≡ true) × (c ≡ true)
    × (d ≡ true) × (e ≡ true) × (g ≡ true)
six a b c d e g h =
    let last = three (a && b && c && d) e g h in
    let first = and_parts (a && b && c) d last.0 in
    let start = three a b c first.0 in
    (start.0, start.1, start.2, first.1, last.1, last.2)

pub good_frame : (f : Frame) → IsTrue (is_good_frame f) → GoodFrame f
good_frame f h =
    let rules = rules_hold (is_within (negsuc 0) (pos 999999) f.srs_id)
    (is_good_bound f.min_x && is_good_bound f.min_y && is_good_bound f.max_x && is_good_bound f.max_y && int_lt
    f.min_x f.max_x && int_lt f.min_y f.max_y)
    (is_within (pos 1) (pos 4096) f.tile_width && is_within (pos 1) (pos 4096) f.tile_height)
    (int_le (pos 0) f.first_zoom && int_le (pos 1) f.levels && int_le (f.first_zoom +ℤ f.levels) (pos 21))
    (is_within (pos 1) (pos 2 *ℤ ten_to_12) f.matrix_width && is_within (pos 1) (pos 2 *ℤ ten_to_12)
    f.matrix_height)
    (divides (width_at f (last_level f) *ℤ f.tile_width) (f.max_x -ℤ f.min_x) && divides
    (height_at f (last_level f) *ℤ f.tile_height) (f.max_y -ℤ f.min_y)) h in
    let bounds = six (is_good_bound f.min_x) (is_good_bound f.min_y) (is_good_bound f.max_x) (is_good_bound f.max_y)
    (int_lt f.min_x f.max_x) (int_lt f.min_y f.max_y) rules.0 in
    let tile = and_parts (is_within (pos 1) (pos 4096) f.tile_width) (is_within (pos 1) (pos 4096) f.tile_height)
    rules.1 in
    let zooms = three (int_le (pos 0) f.first_zoom) (int_le (pos 1) f.levels)
    (int_le (f.first_zoom +ℤ f.levels) (pos 21)) rules.2 in
    let matrix = and_parts (is_within (pos 1) (pos 2 *ℤ ten_to_12) f.matrix_width)
    (is_within (pos 1) (pos 2 *ℤ ten_to_12) f.matrix_height) rules.3 in
    let even = and_parts (divides (width_at f (last_level f) *ℤ f.tile_width) (f.max_x -ℤ f.min_x))
    (divides (height_at f (last_level f) *ℤ f.tile_height) (f.max_y -ℤ f.min_y)) rules.4 in
    record {
      min_x = within _ _ f.min_x bounds.0;
      min_y = within _ _ f.min_y bounds.1;
      max_x = within _ _ f.max_x bounds.2;
      max_y = within _ _ f.max_y bounds.3;
      order_x = omega (arith, ints, bounds.4);
      order_y = omega (arith, ints, bounds.5);
      tile_width = within _ _ f.tile_width tile.0;
      tile_height = within _ _ f.tile_height tile.1;
      first_zoom = omega (arith, ints, zooms.0);
      levels = omega (arith, ints, zooms.1);
      zooms = omega (arith, ints, zooms.2);
      matrix_width = within _ _ f.matrix_width matrix.0;
      matrix_height = within _ _ f.matrix_height matrix.1;
      even_x = even.0;
      even_y = even.1;
    }

-- how far below the first a level lies
pub level_range : (f : Frame) (zoom : ℤ) → GoodFrame f → has_level f zoom ≡ true
    → (pos 0 ≤ℤ (zoom -ℤ f.first_zoom)) × ((zoom -ℤ f.first_zoom) ≤ℤ (f.levels -ℤ pos 1))
    × ((f.levels -ℤ pos 1) ≤ℤ pos 20)
level_range f zoom good h =
    let parts = and_parts (int_le f.first_zoom zoom) (int_lt zoom (f.first_zoom +ℤ f.levels)) h in
    (omega (arith, ints, parts.0, parts.1), omega (arith, ints, parts.0, parts.1), omega (arith, ints))
