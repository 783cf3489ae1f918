-- The axes of a good frame, and the ranges of its numbers.
use Rattle.std.specs.Prelude.{◌≡◌, true, ℤ, pos, ◌-ℤ◌, ◌*ℤ◌, ◌≤ℤ◌, ◌*◌, ◌≤◌}
use Rattle.std.specs.Prelude.{negsuc}
use Rattle.std.proofs.Common.{arith, FitsSigned, w64}
use Rattle.std.proofs.lemmas.Int.{ints}
use Rattle.std.proofs.Math.Nat.{mul-le-mul_right}
use Rattle.sheet_types.specs.declared.frame.Frame.{Frame}
use Rattle.sheet_types.specs.Matrix.{has_level}
use Rattle.matrix_rules.specs.Axes.{axes, HasPixels, IsAxis, IsOffset}
use Rattle.matrix_rules.proofs.Frames.{GoodFrame, level_range}
use Rattle.matrix_rules.proofs.Grids.{Grid, grid_x, grid_y}

-- every number of a good frame fits 64 bits, and so do its extents and how far down a zoom lies
pub record FitsWords (f : Frame) (zoom : ℤ) : Type 0 where
  pub min_x : FitsSigned w64 f.min_x
  pub min_y : FitsSigned w64 f.min_y
  pub max_x : FitsSigned w64 f.max_x
  pub max_y : FitsSigned w64 f.max_y
  pub width : FitsSigned w64 (f.max_x -ℤ f.min_x)
  pub height : FitsSigned w64 (f.max_y -ℤ f.min_y)
  pub tile_width : FitsSigned w64 f.tile_width
  pub tile_height : FitsSigned w64 f.tile_height
  pub matrix_width : FitsSigned w64 f.matrix_width
  pub matrix_height : FitsSigned w64 f.matrix_height
  pub first_zoom : FitsSigned w64 f.first_zoom
  pub level : FitsSigned w64 (zoom -ℤ f.first_zoom)

pub fits_words : (f : Frame) (zoom : ℤ) → GoodFrame f → has_level f zoom ≡ true → FitsWords f zoom
fits_words f zoom good level =
    let range = level_range f zoom good level in
    record {
      min_x = omega (arith, ints);
      min_y = omega (arith, ints);
      max_x = omega (arith, ints);
      max_y = omega (arith, ints);
      width = omega (arith, ints);
      height = omega (arith, ints);
      tile_width = omega (arith, ints);
      tile_height = omega (arith, ints);
      matrix_width = omega (arith, ints);
      matrix_height = omega (arith, ints);
      first_zoom = omega (arith, ints);
      level = omega (arith, ints);
    }

pub across_pixels : (f : Frame) (zoom : ℤ) → GoodFrame f → has_level f zoom ≡ true
    → HasPixels (f.max_x -ℤ f.min_x) f.tile_width f.matrix_width (zoom -ℤ f.first_zoom)
across_pixels f zoom good level =
    let range = level_range f zoom good level in
    record {
      most = omega (arith, ints);
      tile_range = good.tile_width;
      matrix_range = good.matrix_width;
      level_range = (range.0, omega (arith, ints));
      pixels = (grid_x f zoom good level).pixels;
    }

pub down_pixels : (f : Frame) (zoom : ℤ) → GoodFrame f → has_level f zoom ≡ true
    → HasPixels (f.max_y -ℤ f.min_y) f.tile_height f.matrix_height (zoom -ℤ f.first_zoom)
down_pixels f zoom good level =
    let range = level_range f zoom good level in
    record {
      most = omega (arith, ints);
      tile_range = good.tile_height;
      matrix_range = good.matrix_height;
      level_range = (range.0, omega (arith, ints));
      pixels = (grid_y f zoom good level).pixels;
    }

is_axis : (low high tiles tile span pixel : ℤ) → Grid low high tiles tile span
    → IsAxis (record { tiles = tiles; pixel_size = pixel; span = span })
is_axis low high tiles tile span pixel grid = record {
  tiles = rw grid.tiles_is (omega (arith, ints, grid.one), omega (arith, ints, grid.few));
  span = rw grid.span_is (omega (arith, ints, grid.long), omega (arith, ints, grid.short));
  whole = rw (grid.tiles_is, grid.span_is) (omega (arith, ints, grid.most));
}

pub across_axis : (f : Frame) (zoom : ℤ) → GoodFrame f → has_level f zoom ≡ true → IsAxis (axes f zoom).across
across_axis f zoom good level = is_axis f.min_x f.max_x _ f.tile_width _ _ (grid_x f zoom good level)

pub down_axis : (f : Frame) (zoom : ℤ) → GoodFrame f → has_level f zoom ≡ true → IsAxis (axes f zoom).down
down_axis f zoom good level = is_axis f.min_y f.max_y _ f.tile_height _ _ (grid_y f zoom good level)

-- so many tiles are no longer than the axis
pub along_axis : (tiles span part : ℤ) → (tiles *ℤ span) ≤ℤ pos 2000000000000 → pos 1 ≤ℤ span
    → pos 0 ≤ℤ part → part ≤ℤ tiles → IsOffset (part *ℤ span)
along_axis (pos n) (pos s) (pos c) whole some low high =
    let below : c ≤ n = omega (arith, ints, high) in
    let product : c * s ≤ n * s = mul-le-mul_right s below in
    (omega (arith, ints), omega (arith, ints, product, whole))
along_axis (negsuc n) span (pos c) whole some low high = absurd (omega (arith, ints, high))
along_axis tiles (negsuc s) part whole some low high = absurd (omega (arith, ints, some))
along_axis tiles span (negsuc c) whole some low high = absurd (omega (arith, ints, low))
