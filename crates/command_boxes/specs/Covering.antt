-- The least rectangle of sheets that covers a box. Profile, over OGC GeoPackage 1.3, 2.2.7 (tile matrix).
use Rattle.std.specs.Prelude.{◌≡◌, ◌&&◌, Bool, IsTrue, ℤ, pos, ◌+ℤ◌, ◌*ℤ◌, ◌≤ℤ◌}
use Rattle.std.specs.Prelude.{◌<ℤ◌, int_lt}
use Rattle.sheet_types.specs.declared.frame.Frame.{Frame}
use Rattle.sheet_types.specs.declared.frame.Ground.{Ground}
use Rattle.sheet_types.specs.declared.frame.Rect.{Rect}
use Rattle.sheet_types.specs.Matrix.{block_ground, has_level, is_good_rect, lies_within}

-- the whole ground of a frame
abbrev pub frame_ground : Frame → Ground
frame_ground f = record { west = f.min_x; south = f.min_y; east = f.max_x; north = f.max_y }

-- a box of some width and height lies on the ground of a frame
abbrev pub has_box : Frame → Ground → Bool
has_box f g = lies_within (frame_ground f) g && int_lt g.west g.east && int_lt g.south g.north

-- it can be covered at a zoom
abbrev pub can_cover : Frame → ℤ → Ground → Bool
can_cover f zoom g = has_level f zoom && has_box f g

-- This good rectangle of the zoom has all of the box on its ground.
pub record Covers (f : Frame) (zoom : ℤ) (g : Ground) (r : Rect) : Type 0 where
  pub level : r.zoom ≡ zoom
  pub good : IsTrue (is_good_rect f r)
  pub box : IsTrue (lies_within (block_ground f r) g)

-- a rectangle has no sheet that the other lacks
pub record IsInside (inner outer : Rect) : Type 0 where
  pub columns : (outer.column ≤ℤ inner.column) × (inner.last_column ≤ℤ outer.last_column)
  pub rows : (outer.row ≤ℤ inner.row) × (inner.last_row ≤ℤ outer.last_row)

-- It covers the box, and whatever covers the box has all its sheets.
pub record IsLeastCover (f : Frame) (zoom : ℤ) (g : Ground) (r : Rect) : Type 0 where
  pub covers : Covers f zoom g r
  pub least : (other : Rect) → Covers f zoom g other → IsInside r other

-- Of equal tiles along an axis, a stretch from low to high begins in the first and ends in the last.
pub record IsStretch (tiles span low high first last : ℤ) : Type 0 where
  pub begins : ((first *ℤ span) ≤ℤ low) × (low <ℤ ((first +ℤ pos 1) *ℤ span))
  pub ends : ((last *ℤ span) <ℤ high) × (high ≤ℤ ((last +ℤ pos 1) *ℤ span))
  pub within : (pos 0 ≤ℤ first) × (first ≤ℤ last) × (last <ℤ tiles)
