-- The places of one zoom that lie inside a rectangle (profile).
use Rattle.std.specs.Prelude.{◌≡◌, Bool, false, Option, None, Some, ◌≤ℤ◌, ◌&&◌, ℤ, pos}
use Rattle.std.specs.Prelude.{◌+ℤ◌, ◌*ℤ◌, int_le}
use Rattle.sheet_types.specs.declared.frame.Frame.{Frame}
use Rattle.sheet_types.specs.declared.frame.Rect.{Rect}
use Rattle.sheet_types.specs.Matrix.{is_within, has_place, tile_inside, tile_span_x, tile_span_y}
use Rattle.matrix_rules.specs.declared.ground.Offsets.{Offsets}
use Rattle.matrix_rules.specs.declared.spans.Span.{Span}

-- a place of the frame whose tile is inside the rectangle
abbrev pub is_inside : Frame → Rect → ℤ → ℤ → ℤ → Bool
is_inside f r zoom column row = has_place f zoom column row && tile_inside f r zoom column row

-- this column and row belong to the span
abbrev pub in_span : Span → ℤ → ℤ → Bool
in_span s column row = is_within s.column s.last_column column && is_within s.row s.last_row row

-- where the ground of a rectangle begins and ends, from the western and the northern edge of the frame
abbrev pub offsets : Frame → Rect → Offsets
offsets f r = record {
  west = r.column *ℤ tile_span_x f r.zoom;
  east = (r.last_column +ℤ pos 1) *ℤ tile_span_x f r.zoom;
  north = r.row *ℤ tile_span_y f r.zoom;
  south = (r.last_row +ℤ pos 1) *ℤ tile_span_y f r.zoom;
}

-- of equal parts of an axis, counted from 0, this one lies between start and end
abbrev pub is_between : ℤ → ℤ → ℤ → ℤ → Bool
is_between start end length part = int_le start (part *ℤ length) && int_le ((part +ℤ pos 1) *ℤ length) end

-- the first and the last of the parts between start and end, or none where there is none
abbrev pub AreParts : ℤ → ℤ → ℤ → Option (ℤ × ℤ) → Type 0
AreParts start end length None = (part : ℤ) → is_between start end length part ≡ false
AreParts start end length (Some ends) = (ends.0 ≤ℤ ends.1) ×
    ((part : ℤ) → is_between start end length part ≡ is_within ends.0 ends.1 part)
