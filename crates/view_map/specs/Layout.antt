-- How large a map is: the places of a zoom, and the size at which each is drawn. Profile.
use Rattle.std.specs.Prelude.{ℕ, ◌+◌, ◌*◌, ◌/◌, ◌≤◌, ℤ, Bool, ◌&&◌, min, nat_lt, count_by}
use Rattle.std.specs.Prelude.{unsigned_abs}
use Rattle.sheet_types.specs.declared.frame.Frame.{Frame}
use Rattle.sheet_types.specs.Matrix.{width_at, height_at, level_of, tile_span_x, tile_span_y}
use Rattle.view_map.specs.declared.holders.Place.{Place}
use Rattle.view_map.specs.declared.holders.Holder.{Holder}
use Rattle.view_map.specs.declared.layout.Layout.{Layout}

-- a side of a place whose shorter side is 24 units, by the two sides of a tile on the ground
abbrev pub side : ℕ → ℕ → ℕ
side own other = (24 * own) / min own other

-- the width and the height of a tile on the ground
abbrev pub span_across : Frame → ℤ → ℕ
span_across f zoom = unsigned_abs (tile_span_x f zoom)

abbrev pub span_down : Frame → ℤ → ℕ
span_down f zoom = unsigned_abs (tile_span_y f zoom)

abbrev pub layout_of : Frame → ℤ → Layout
layout_of f zoom = record {
  columns = unsigned_abs (width_at f (level_of f zoom));
  rows = unsigned_abs (height_at f (level_of f zoom));
  width = side (span_across f zoom) (span_down f zoom);
  height = side (span_down f zoom) (span_across f zoom);
}

-- each place can be seen, and no number of the picture passes 64 bits
pub record IsLayout (l : Layout) : Type 0 where
  pub across : l.columns * l.width ≤ 48000000000000
  pub down : l.rows * l.height ≤ 48000000000000
  pub wide : 24 ≤ l.width
  pub high : 24 ≤ l.height

-- whether the zoom has this place
abbrev pub is_on : Layout → Place → Bool
is_on l p = nat_lt p.column l.columns && nat_lt p.row l.rows

-- how many sheets of the map a package has
abbrev pub sheets_on : Layout → Holder → ℕ
sheets_on l h = count_by (is_on l) h.places.items

-- the number of a place: row by row
abbrev pub number : Layout → Place → ℕ
number l p = p.row * l.columns + p.column

-- ---- where things stand in the picture, in its units

abbrev pub map_width : Layout → ℕ
map_width l = l.columns * l.width

abbrev pub map_height : Layout → ℕ
map_height l = l.rows * l.height

-- the left edge of a column, and the upper edge of a row
abbrev pub column_left : Layout → ℕ → ℕ
column_left l column = 20 + column * l.width

abbrev pub row_top : Layout → ℕ → ℕ
row_top l row = 48 + row * l.height

-- the line of the n-th package below the map
abbrev pub line_at : Layout → ℕ → ℕ
line_at l n = map_height l + 76 + 18 * n
