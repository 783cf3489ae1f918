-- Where a good rectangle's edges lie.
use Rattle.std.specs.Prelude.{◌≡◌, ◌*◌, ◌≤◌, true, ◌&&◌, ℤ, pos, negsuc, ◌-ℤ◌, ◌*ℤ◌}
use Rattle.std.specs.Prelude.{◌≤ℤ◌, ◌<ℤ◌, int_le, int_lt}
use Rattle.std.proofs.Common.{arith, ap, sym, FitsSigned, ◌+ℤ◌, w64}
use Rattle.std.proofs.lemmas.Bool.{and_parts}
use Rattle.std.proofs.lemmas.Int.{ints}
use Rattle.std.proofs.Math.Nat.{mul-le-mul_right}
use Rattle.sheet_types.specs.declared.frame.Frame.{Frame}
use Rattle.sheet_types.specs.declared.frame.Rect.{Rect}
use Rattle.sheet_types.specs.Matrix.{has_level, has_place, width_at, height_at, level_of, is_good_rect}
use Rattle.matrix_rules.specs.declared.axis.Axes.{Axes}
use Rattle.matrix_rules.specs.Axes.{axes, IsAxis}
use Rattle.matrix_rules.proofs.Frames.{three}
use Rattle.matrix_rules.proofs.Grids.{Grid}

-- a place of a frame
pub record Place (f : Frame) (zoom column row : ℤ) : Type 0 where
  pub level : has_level f zoom ≡ true
  pub across : (pos 0 ≤ℤ column) × (column <ℤ width_at f (level_of f zoom))
  pub down : (pos 0 ≤ℤ row) × (row <ℤ height_at f (level_of f zoom))

pub place : (f : Frame) (zoom column row : ℤ) → has_place f zoom column row ≡ true → Place f zoom column row
place f zoom column row h =
    let rows = three (has_level f zoom && int_le (pos 0) column && int_lt column (width_at f (level_of f zoom)))
    (int_le (pos 0) row) (int_lt row (height_at f (level_of f zoom))) h in
    let columns = three (has_level f zoom) (int_le (pos 0) column) (int_lt column (width_at f (level_of f zoom)))
    rows.0 in
    record {
      level = columns.0;
      across = (omega (arith, ints, columns.1), omega (arith, ints, columns.2));
      down = (omega (arith, ints, rows.1), omega (arith, ints, rows.2));
    }

-- so many tiles are no longer than the axis
pub along : (low high tiles tile span c : ℤ) → Grid low high tiles tile span → pos 0 ≤ℤ c → c ≤ℤ tiles
    → (pos 0 ≤ℤ (c *ℤ span)) × ((c *ℤ span) ≤ℤ (high -ℤ low))
    × ((c *ℤ span) ≤ℤ pos 2000000000000)
along low high tiles tile span (pos c) grid some most =
    let below : c ≤ grid.count = omega (arith, ints, grid.tiles_is, most) in
    let part : c * grid.size ≤ grid.count * grid.size = mul-le-mul_right grid.size below in
    rw grid.span_is (omega (arith, ints), omega (arith, ints, part, grid.whole), omega (arith, ints, part, grid.most))
along low high tiles tile span (negsuc c) grid some most = absurd (omega (arith, ints, some))

-- a good rectangle: its ends are places
pub record Block (f : Frame) (r : Rect) : Type 0 where
  pub level : has_level f r.zoom ≡ true
  pub first : Place f r.zoom r.column r.row
  pub last : Place f r.zoom r.last_column r.last_row
  pub columns : r.column ≤ℤ r.last_column
  pub rows : r.row ≤ℤ r.last_row

pub block : (f : Frame) (r : Rect) → is_good_rect f r ≡ true → Block f r
block f r h =
    let order = three (has_place f r.zoom r.column r.row && has_place f r.zoom r.last_column r.last_row)
    (int_le r.column r.last_column) (int_le r.row r.last_row) h in
    let ends = and_parts (has_place f r.zoom r.column r.row) (has_place f r.zoom r.last_column r.last_row) order.0 in
    let first = place f r.zoom r.column r.row ends.0 in
    record {
      level = first.level;
      first = first;
      last = place f r.zoom r.last_column r.last_row ends.1;
      columns = omega (arith, ints, order.1);
      rows = omega (arith, ints, order.2);
    }

-- where a good rectangle's edges lie on the axes of its zoom, and that the numbers after its last ones fit 64 bits
pub record Starts (r : Rect) (a : Axes) : Type 0 where
  pub west : (pos 0 ≤ℤ r.column) × (r.column ≤ℤ a.across.tiles)
  pub east : (pos 0 ≤ℤ (r.last_column +ℤ pos 1)) × ((r.last_column +ℤ pos 1) ≤ℤ a.across.tiles)
  pub north : (pos 0 ≤ℤ r.row) × (r.row ≤ℤ a.down.tiles)
  pub south : (pos 0 ≤ℤ (r.last_row +ℤ pos 1)) × ((r.last_row +ℤ pos 1) ≤ℤ a.down.tiles)
  pub next_column : FitsSigned w64 (r.last_column +ℤ pos 1)
  pub next_row : FitsSigned w64 (r.last_row +ℤ pos 1)

pub starts : (f : Frame) (r : Rect) (a : Axes) → is_good_rect f r ≡ true → a ≡ axes f r.zoom
    → IsAxis a.across × IsAxis a.down → Starts r a
starts f r a h is good =
    let rect = block f r h in
    let columns : a.across.tiles ≡ width_at f (level_of f r.zoom) = ap (λ (x : Axes). x.across.tiles) is in
    let rows : a.down.tiles ≡ height_at f (level_of f r.zoom) = ap (λ (x : Axes). x.down.tiles) is in
    record {
      west = (rect.first.across.0, rw columns (omega (arith, ints, rect.first.across.1)));
      east = (omega (arith, ints, rect.last.across.0), rw columns (omega (arith, ints, rect.last.across.1)));
      north = (rect.first.down.0, rw rows (omega (arith, ints, rect.first.down.1)));
      south = (omega (arith, ints, rect.last.down.0), rw rows (omega (arith, ints, rect.last.down.1)));
      next_column = omega (arith, ints, rect.last.across.0, rw (sym columns) at rect.last.across.1, good.0.tiles.1);
      next_row = omega (arith, ints, rect.last.down.0, rw (sym rows) at rect.last.down.1, good.1.tiles.1);
    }
