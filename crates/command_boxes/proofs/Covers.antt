-- What covers a box, from its stretches along both axes.
use Rattle.std.specs.Prelude.{◌≡◌, ◌&&◌, Bool, true, false, refl, ℤ, pos, ◌+ℤ◌, ◌-ℤ◌}
use Rattle.std.specs.Prelude.{◌*ℤ◌, ◌≤ℤ◌, ◌<ℤ◌, int_le, int_lt}
use Rattle.std.proofs.Common.{arith, sym, subst, ◌∙◌, FitsSigned, w64}
use Rattle.std.proofs.lemmas.Bool.{and_parts, and_from}
use Rattle.std.proofs.lemmas.Int.{ints}
use Rattle.sheet_types.specs.declared.frame.Frame.{Frame}
use Rattle.sheet_types.specs.declared.frame.Ground.{Ground}
use Rattle.sheet_types.specs.declared.frame.Rect.{Rect}
use Rattle.sheet_types.specs.Matrix.{block_ground, has_level, has_place, height_at, is_good_rect, level_of}
use Rattle.sheet_types.specs.Matrix.{lies_within, tile_span_x, tile_span_y, width_at}
use Rattle.matrix_rules.proofs.Frames.{GoodFrame, three}
use Rattle.matrix_rules.proofs.Grids.{Grid, grid_x, grid_y}
use Rattle.command_boxes.specs.Covering.{Covers, IsInside, IsLeastCover, IsStretch, frame_ground, has_box}
use Rattle.command_boxes.proofs.Stretches.{is_no_later}

-- ---- what a box's test says

pub record HasBox (f : Frame) (g : Ground) : Type 0 where
  pub west : f.min_x ≤ℤ g.west
  pub east : g.east ≤ℤ f.max_x
  pub south : f.min_y ≤ℤ g.south
  pub north : g.north ≤ℤ f.max_y
  pub width : g.west <ℤ g.east
  pub height : g.south <ℤ g.north

pub record LiesWithin (outer inner : Ground) : Type 0 where
  pub west : outer.west ≤ℤ inner.west
  pub east : inner.east ≤ℤ outer.east
  pub south : outer.south ≤ℤ inner.south
  pub north : inner.north ≤ℤ outer.north

pub lies : (outer inner : Ground) → lies_within outer inner ≡ true → LiesWithin outer inner
lies outer inner h =
    let last = and_parts (int_le outer.west inner.west && int_le inner.east outer.east && int_le outer.south
    inner.south) (int_le inner.north outer.north) h in
    let first = three (int_le outer.west inner.west) (int_le inner.east outer.east) (int_le outer.south inner.south)
    last.0 in
    record {
      west = omega (arith, ints, first.0);
      east = omega (arith, ints, first.1);
      south = omega (arith, ints, first.2);
      north = omega (arith, ints, last.1);
    }

pub is_lying : (outer inner : Ground) → LiesWithin outer inner → lies_within outer inner ≡ true
is_lying outer inner it =
    let west : true ≡ int_le outer.west inner.west = omega (arith, ints, it.west) in
    let east : true ≡ int_le inner.east outer.east = omega (arith, ints, it.east) in
    let south : true ≡ int_le outer.south inner.south = omega (arith, ints, it.south) in
    let north : true ≡ int_le inner.north outer.north = omega (arith, ints, it.north) in
    and_from _ _ (and_from _ _ (and_from _ _ (sym west) (sym east)) (sym south)) (sym north)

pub box_of : (f : Frame) (g : Ground) → has_box f g ≡ true → HasBox f g
box_of f g h =
    let parts = three (lies_within (frame_ground f) g) (int_lt g.west g.east) (int_lt g.south g.north) h in
    let within = lies (frame_ground f) g parts.0 in
    record {
      west = within.west;
      east = within.east;
      south = within.south;
      north = within.north;
      width = omega (arith, ints, parts.1);
      height = omega (arith, ints, parts.2);
    }

-- ---- the first place of a zoom

some_tiles : (low high tiles tile span : ℤ) → Grid low high tiles tile span → int_lt (pos 0) tiles ≡ true
some_tiles low high tiles tile span grid = let some : true ≡ int_lt (pos 0) tiles =
    rw grid.tiles_is (omega (arith, ints, grid.one)) in sym some

pub first_place : (f : Frame) (zoom : ℤ) → GoodFrame f → has_level f zoom ≡ true
    → has_place f zoom (pos 0) (pos 0) ≡ true
first_place f zoom good level =
    rw (level, some_tiles _ _ _ _ _ (grid_x f zoom good level), some_tiles _ _ _ _ _ (grid_y f zoom good level)) refl

zoom_by : (f : Frame) (zoom : ℤ) (v : Bool) → GoodFrame f → has_level f zoom ≡ v
    → has_place f zoom (pos 0) (pos 0) ≡ has_level f zoom
zoom_by f zoom true good is = first_place f zoom good is ∙ sym is
zoom_by f zoom false good is = rw is refl

-- a frame has a zoom where it has the first place of it
pub zoom_is : (f : Frame) (zoom : ℤ) → GoodFrame f → has_place f zoom (pos 0) (pos 0) ≡ has_level f zoom
zoom_is f zoom good = zoom_by f zoom (has_level f zoom) good refl

-- ---- the stretches of a box

-- what ends on the extent ends on the tiles
stretch_ends : (low high tiles tile span to : ℤ) → Grid low high tiles tile span → to ≤ℤ (high -ℤ low)
    → to ≤ℤ (tiles *ℤ span)
stretch_ends low high tiles tile span to grid most =
    rw (grid.tiles_is, grid.span_is) (omega (arith, ints, grid.whole, most))

one_span : (low high tiles tile span : ℤ) → Grid low high tiles tile span → pos 1 ≤ℤ span
one_span low high tiles tile span grid = rw grid.span_is (omega (arith, ints, grid.long))

-- ---- a rectangle of such ends is good, and has the box on its ground

is_place : (f : Frame) (zoom column row : ℤ) → has_level f zoom ≡ true → pos 0 ≤ℤ column
    → column <ℤ width_at f (level_of f zoom)
    → pos 0 ≤ℤ row → row <ℤ height_at f (level_of f zoom) → has_place f zoom column row ≡ true
is_place f zoom column row level west east north south =
    let a : true ≡ int_le (pos 0) column = omega (arith, ints, west) in
    let b : true ≡ int_lt column (width_at f (level_of f zoom)) = omega (arith, ints, east) in
    let c : true ≡ int_le (pos 0) row = omega (arith, ints, north) in
    let d : true ≡ int_lt row (height_at f (level_of f zoom)) = omega (arith, ints, south) in
    and_from _ _ (and_from _ _ (and_from _ _ (and_from _ _ level (sym a)) (sym b)) (sym c)) (sym d)

placed : (f : Frame) (zoom column row : ℤ) → has_place f zoom column row ≡ true → (pos 0 ≤ℤ column)
    × (pos 0 ≤ℤ row)
placed f zoom column row h =
    let last = three (has_level f zoom && int_le (pos 0) column && int_lt column (width_at f (level_of f zoom)))
    (int_le (pos 0) row) (int_lt row (height_at f (level_of f zoom))) h in
    let first = three (has_level f zoom) (int_le (pos 0) column) (int_lt column (width_at f (level_of f zoom)))
    last.0 in
    (omega (arith, ints, first.1), omega (arith, ints, last.1))

-- the last column and the last row of a good rectangle
last_placed : (f : Frame) (r : Rect) → is_good_rect f r ≡ true → (pos 0 ≤ℤ r.last_column)
    × (pos 0 ≤ℤ r.last_row)
last_placed f r h =
    let parts = three (has_place f r.zoom r.column r.row && has_place f r.zoom r.last_column r.last_row)
    (int_le r.column r.last_column) (int_le r.row r.last_row) h in
    let places = and_parts (has_place f r.zoom r.column r.row) (has_place f r.zoom r.last_column r.last_row) parts.0 in
    placed f r.zoom r.last_column r.last_row places.1

beyond : (edge from at : ℤ) → at ≤ℤ (from -ℤ edge) → (edge +ℤ at) ≤ℤ from
beyond edge from at h = omega (arith, ints, h)

up_to : (edge to at : ℤ) → (to -ℤ edge) ≤ℤ at → to ≤ℤ (edge +ℤ at)
up_to edge to at h = omega (arith, ints, h)

above : (edge from at : ℤ) → at ≤ℤ (edge -ℤ from) → from ≤ℤ (edge -ℤ at)
above edge from at h = omega (arith, ints, h)

down_to : (edge to at : ℤ) → (edge -ℤ to) ≤ℤ at → (edge -ℤ at) ≤ℤ to
down_to edge to at h = omega (arith, ints, h)

-- both stretches of a box at a zoom
pub record Stretches (f : Frame) (zoom : ℤ) (g : Ground) (r : Rect) : Type 0 where
  pub across : IsStretch (width_at f (level_of f zoom)) (tile_span_x f zoom) (g.west -ℤ f.min_x) (g.east -ℤ f.min_x)
      r.column r.last_column
  pub down : IsStretch (height_at f (level_of f zoom)) (tile_span_y f zoom) (f.max_y -ℤ g.north)
      (f.max_y -ℤ g.south)
      r.row r.last_row

no_more : (a b c : ℤ) → a ≤ℤ b → b <ℤ c → a <ℤ c
no_more a b c h k = omega (arith, ints, h, k)

covers_box : (f : Frame) (g : Ground) (r : Rect) → has_level f r.zoom ≡ true → Stretches f r.zoom g r
    → Covers f r.zoom g r
covers_box f g r level it =
    let x = it.across in
    let y = it.down in
    let columns : true ≡ int_le r.column r.last_column = omega (arith, ints, x.within.1) in
    let rows : true ≡ int_le r.row r.last_row = omega (arith, ints, y.within.1) in
    let first = is_place f r.zoom r.column r.row level x.within.0 (no_more _ _ _ x.within.1 x.within.2) y.within.0
    (no_more _ _ _ y.within.1 y.within.2) in
    let last = is_place f r.zoom r.last_column r.last_row level (omega (arith, ints, x.within.0, x.within.1))
    x.within.2 (omega (arith, ints, y.within.0, y.within.1)) y.within.2 in
    record {
      level = refl;
      good = and_from _ _ (and_from _ _ (and_from _ _ first last) (sym columns)) (sym rows);
      box = is_lying (block_ground f r) g (record {
        west = beyond f.min_x g.west _ x.begins.0;
        east = up_to f.min_x g.east _ x.ends.1;
        south = down_to f.max_y g.south _ y.ends.1;
        north = above f.max_y g.north _ y.begins.0;
      });
    }

-- ---- and no other lacks one of its sheets

from_edge : (edge from at : ℤ) → (edge +ℤ at) ≤ℤ from → at ≤ℤ (from -ℤ edge)
from_edge edge from at h = omega (arith, ints, h)

under_edge : (edge from at : ℤ) → from ≤ℤ (edge -ℤ at) → at ≤ℤ (edge -ℤ from)
under_edge edge from at h = omega (arith, ints, h)

ends_behind : (edge to last at : ℤ) → last <ℤ (to -ℤ edge) → to ≤ℤ (edge +ℤ at) → last <ℤ at
ends_behind edge to last at h k = omega (arith, ints, h, k)

ends_below : (edge to last at : ℤ) → last <ℤ (edge -ℤ to) → (edge -ℤ at) ≤ℤ to → last <ℤ at
ends_below edge to last at h k = omega (arith, ints, h, k)

same : (a : ℤ) → a ≤ℤ a
same a = omega (arith, ints)

lies_at : (f : Frame) (zoom : ℤ) (g : Ground) (other : Rect) → Covers f zoom g other
    → LiesWithin (block_ground f (record {
      zoom = zoom;
      column = other.column;
      last_column = other.last_column;
      row = other.row;
      last_row = other.last_row;
    })) g
lies_at f zoom g other it =
    subst (λ z. LiesWithin (block_ground f (record {
      zoom = z;
      column = other.column;
      last_column = other.last_column;
      row = other.row;
      last_row = other.last_row;
    })) g)
    it.level (lies (block_ground f other) g it.box)

is_inside : (f : Frame) (zoom : ℤ) (g : Ground) (r other : Rect) → GoodFrame f → has_level f zoom ≡ true
    → Stretches f zoom g r → Covers f zoom g other
    → IsInside r other
is_inside f zoom g r other good level it covers =
    let ground = lies_at f zoom g other covers in
    let last = last_placed f other covers.good in
    let wide = one_span _ _ _ _ _ (grid_x f zoom good level) in
    let high = one_span _ _ _ _ _ (grid_y f zoom good level) in
    let x = it.across in
    let y = it.down in
    record {
      columns = (
        is_no_later other.column r.column (tile_span_x f zoom) _ wide x.within.0
            (from_edge f.min_x g.west _ ground.west) x.begins.1,
        is_no_later r.last_column other.last_column (tile_span_x f zoom) _ wide last.0 (same _)
            (ends_behind f.min_x g.east _ _ x.ends.0 ground.east),
      );
      rows = (
        is_no_later other.row r.row (tile_span_y f zoom) _ high y.within.0 (under_edge f.max_y g.north _ ground.north)
            y.begins.1,
        is_no_later r.last_row other.last_row (tile_span_y f zoom) _ high last.1 (same _)
            (ends_below f.max_y g.south _ _ y.ends.0 ground.south),
      );
    }

pub least_of : (f : Frame) (g : Ground) (r : Rect) → GoodFrame f → has_level f r.zoom ≡ true
    → Stretches f r.zoom g r
    → IsLeastCover f r.zoom g r
least_of f g r good level it = record {
  covers = covers_box f g r level it;
  least = λ other covers. is_inside f r.zoom g r other good level it covers;
}

-- ---- no number on the way passes 64 bits

pub record BoxFits (f : Frame) (g : Ground) : Type 0 where
  pub min_x : FitsSigned w64 f.min_x
  pub max_y : FitsSigned w64 f.max_y
  pub west : FitsSigned w64 g.west
  pub east : FitsSigned w64 g.east
  pub south : FitsSigned w64 g.south
  pub north : FitsSigned w64 g.north
  pub from_west : FitsSigned w64 (g.west -ℤ f.min_x)
  pub to_east : FitsSigned w64 (g.east -ℤ f.min_x)
  pub from_north : FitsSigned w64 (f.max_y -ℤ g.north)
  pub to_south : FitsSigned w64 (f.max_y -ℤ g.south)

pub box_fits : (f : Frame) (g : Ground) → GoodFrame f → HasBox f g → BoxFits f g
box_fits f g good box = record {
  min_x = omega (arith, ints);
  max_y = omega (arith, ints);
  west = omega (arith, ints);
  east = omega (arith, ints);
  south = omega (arith, ints);
  north = omega (arith, ints);
  from_west = omega (arith, ints);
  to_east = omega (arith, ints);
  from_north = omega (arith, ints);
  to_south = omega (arith, ints);
}

-- ---- the stretches lie on the axes

pub stretch_across : (f : Frame) (zoom : ℤ) (g : Ground) → GoodFrame f → has_level f zoom ≡ true → HasBox f g
    → (pos 0 ≤ℤ (g.west -ℤ f.min_x)) × ((g.west -ℤ f.min_x) <ℤ (g.east -ℤ f.min_x))
    × ((g.east -ℤ f.min_x) ≤ℤ (width_at f (level_of f zoom) *ℤ tile_span_x f zoom))
stretch_across f zoom g good level box = (
  omega (arith, ints),
  omega (arith, ints),
  stretch_ends _ _ _ _ _ (g.east -ℤ f.min_x) (grid_x f zoom good level)
      (omega (arith, ints)),
)

pub stretch_down : (f : Frame) (zoom : ℤ) (g : Ground) → GoodFrame f → has_level f zoom ≡ true → HasBox f g
    → (pos 0 ≤ℤ (f.max_y -ℤ g.north)) × ((f.max_y -ℤ g.north) <ℤ (f.max_y -ℤ g.south))
    × ((f.max_y -ℤ g.south) ≤ℤ (height_at f (level_of f zoom) *ℤ tile_span_y f zoom))
stretch_down f zoom g good level box = (
  omega (arith, ints),
  omega (arith, ints),
  stretch_ends _ _ _ _ _ (f.max_y -ℤ g.south) (grid_y f zoom good level)
      (omega (arith, ints)),
)
