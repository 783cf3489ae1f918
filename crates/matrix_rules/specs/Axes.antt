-- The axes of a frame at one zoom, both by the same numbers.
use Rattle.std.specs.Prelude.{◌^◌, ℤ, pos, ◌*ℤ◌, ◌≤ℤ◌, int_div, unsigned_abs}
use Rattle.sheet_types.specs.declared.frame.Frame.{Frame}
use Rattle.sheet_types.specs.Matrix.{width_at, height_at, level_of, pixel_x_size, pixel_y_size, tile_span_x}
use Rattle.sheet_types.specs.Matrix.{tile_span_y}
use Rattle.matrix_rules.specs.declared.axis.Axis.{Axis}
use Rattle.matrix_rules.specs.declared.axis.Axes.{Axes}

-- tiles of so many pixels along this extent, so many levels below the first
abbrev pub axis_of : ℤ → ℤ → ℤ → ℤ → Axis
axis_of extent tile matrix level = record {
  tiles = matrix *ℤ pos (2 ^ unsigned_abs level);
  pixel_size = int_div extent (matrix *ℤ pos (2 ^ unsigned_abs level) *ℤ tile);
  span = tile *ℤ int_div extent (matrix *ℤ pos (2 ^ unsigned_abs level) *ℤ tile);
}

-- in the words of the model
abbrev pub axes : Frame → ℤ → Axes
axes f zoom = record {
  across = record { tiles = width_at f (level_of f zoom); pixel_size = pixel_x_size f zoom; span = tile_span_x f zoom };
  down = record { tiles = height_at f (level_of f zoom); pixel_size = pixel_y_size f zoom; span = tile_span_y f zoom };
}

-- how far from the start of an axis its tiles may begin and end
abbrev pub IsOffset : ℤ → Type 0
IsOffset x = (pos 0 ≤ℤ x) × (x ≤ℤ pos 2000000000000)

-- the extent has a thousandth at least for each pixel, and no number on the way passes 64 bits
pub record HasPixels (extent tile matrix level : ℤ) : Type 0 where
  pub most : extent ≤ℤ pos 2000000000000
  pub tile_range : (pos 1 ≤ℤ tile) × (tile ≤ℤ pos 4096)
  pub matrix_range : (pos 1 ≤ℤ matrix) × (matrix ≤ℤ pos 2000000000000)
  pub level_range : (pos 0 ≤ℤ level) × (level ≤ℤ pos 20)
  pub pixels : (matrix *ℤ pos (2 ^ unsigned_abs level) *ℤ tile) ≤ℤ extent

-- an axis as good frames have it
pub record IsAxis (a : Axis) : Type 0 where
  pub tiles : (pos 1 ≤ℤ a.tiles) × (a.tiles ≤ℤ pos 2000000000000)
  pub span : (pos 1 ≤ℤ a.span) × (a.span ≤ℤ pos 2000000000000)
  pub whole : (a.tiles *ℤ a.span) ≤ℤ pos 2000000000000
