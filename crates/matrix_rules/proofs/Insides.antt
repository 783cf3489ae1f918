-- A place is inside a rectangle where its column and its row lie between the rectangle's edges.
use Rattle.std.specs.Prelude.{◌≡◌, suc, ◌+◌, ◌*◌, ◌<◌, ◌≤◌, Bool, true, false, ◌&&◌, ℤ}
use Rattle.std.specs.Prelude.{pos, negsuc, ◌+ℤ◌, ◌-ℤ◌, ◌*ℤ◌, ◌≤ℤ◌, ◌<ℤ◌, int_le}
use Rattle.std.specs.Prelude.{int_lt, refl}
use Rattle.std.proofs.Common.{arith, ap, sym, ◌∙◌}
use Rattle.std.proofs.lemmas.Bool.{and_parts}
use Rattle.std.proofs.lemmas.Int.{ints}
use Rattle.std.proofs.Math.Nat.{le_of_mul-le-mul_right}
use Rattle.sheet_types.specs.declared.frame.Frame.{Frame}
use Rattle.sheet_types.specs.declared.frame.Rect.{Rect}
use Rattle.sheet_types.specs.Matrix.{has_level, has_place, width_at, height_at, level_of, tile_span_x, tile_span_y}
use Rattle.sheet_types.specs.Matrix.{is_within, is_good_rect, block_ground, lies_within, one_tile}
use Rattle.matrix_rules.specs.declared.ground.Offsets.{Offsets}
use Rattle.matrix_rules.specs.Places.{is_inside, is_between, offsets}
use Rattle.matrix_rules.proofs.Frames.{GoodFrame}
use Rattle.matrix_rules.proofs.Grids.{Grid, grid_x, grid_y}
use Rattle.matrix_rules.proofs.Blocks.{block, along}
use Rattle.std.specs.Cmp.{both_ways}
use Rattle.matrix_rules.proofs.Parts.{positive_product}

-- a good rectangle's offsets, between those of the frame's edges
pub record Edges (f : Frame) (o : Offsets) : Type 0 where
  pub west : pos 0 ≤ℤ o.west
  pub east : o.east ≤ℤ (f.max_x -ℤ f.min_x)
  pub north : pos 0 ≤ℤ o.north
  pub south : o.south ≤ℤ (f.max_y -ℤ f.min_y)

edges : (f : Frame) (r : Rect) → GoodFrame f → is_good_rect f r ≡ true → Edges f (offsets f r)
edges f r good h =
    let rect = block f r h in
    let across = grid_x f r.zoom good rect.level in
    let down = grid_y f r.zoom good rect.level in
    record {
      west = (along f.min_x f.max_x _ f.tile_width _ r.column across rect.first.across.0
          (omega (arith, ints, rect.first.across.1))).0;
      east = (along f.min_x f.max_x _ f.tile_width _ (r.last_column +ℤ pos 1) across
          (omega (arith, ints, rect.last.across.0)) (omega (arith, ints, rect.last.across.1))).1;
      north = (along f.min_y f.max_y _ f.tile_height _ r.row down rect.first.down.0
          (omega (arith, ints, rect.first.down.1))).0;
      south = (along f.min_y f.max_y _ f.tile_height _ (r.last_row +ℤ pos 1) down
          (omega (arith, ints, rect.last.down.0)) (omega (arith, ints, rect.last.down.1))).1;
    }

-- a part of an axis that lies within it is one of its tiles
within_axis : (low high tiles tile span c : ℤ) → Grid low high tiles tile span → pos 0 ≤ℤ (c *ℤ span)
    → ((c +ℤ pos 1) *ℤ span) ≤ℤ (high -ℤ low) → (pos 0 ≤ℤ c) × (c <ℤ tiles)
within_axis low high tiles tile span (pos c) grid some most =
    let most' : (pos (c + 1) *ℤ pos grid.size) ≤ℤ (high -ℤ low) = rw grid.span_is at most in
    let product : (c + 1) * grid.size ≤ grid.count * grid.size = omega (arith, ints, most', grid.whole) in
    let below : c + 1 ≤ grid.count = le_of_mul-le-mul_right product grid.long in
    (omega (arith, ints), omega (arith, ints, below, grid.tiles_is))
within_axis low high tiles tile span (negsuc c) grid some most =
    let some' : pos 0 ≤ℤ (negsuc c *ℤ pos grid.size) = rw grid.span_is at some in
    let more : 0 < suc c * grid.size = positive_product c grid.size grid.long in
    absurd (omega (arith, ints, some', more))

int_le_so : (a b : ℤ) → a ≤ℤ b → int_le a b ≡ true
int_le_so a b h = let so : true ≡ int_le a b = omega (arith, ints, h) in sym so

int_lt_so : (a b : ℤ) → a <ℤ b → int_lt a b ≡ true
int_lt_so a b h = let so : true ≡ int_lt a b = omega (arith, ints, h) in sym so

-- a test that the other implies adds nothing
implied : (a b : Bool) → (b ≡ true → a ≡ true) → (a && b) ≡ b
implied true b h = refl
implied false true h = h refl
implied false false h = refl

regrouped : (a b c d : Bool) → (a && b && c && d) ≡ ((a && b) && (d && c))
regrouped true true true true = refl
regrouped true true true false = refl
regrouped true true false true = refl
regrouped true true false false = refl
regrouped true false c d = refl
regrouped false b c d = refl

-- places on one axis compare as their offsets do, and the other way round where these are counted downwards
same_start : (m x y : ℤ) → int_le (m +ℤ x) (m +ℤ y) ≡ int_le x y
same_start m x y = both_ways _ _ (λ h. int_le_so x y (omega (arith, ints, h)))
    (λ h. int_le_so (m +ℤ x) (m +ℤ y) (omega (arith, ints, h)))

turned_start : (m x y : ℤ) → int_le (m -ℤ x) (m -ℤ y) ≡ int_le y x
turned_start m x y = both_ways _ _ (λ h. int_le_so y x (omega (arith, ints, h)))
    (λ h. int_le_so (m -ℤ x) (m -ℤ y) (omega (arith, ints, h)))

-- ground within ground, by the offsets of both
measured : (f : Frame) (r s : Rect) → lies_within (block_ground f r) (block_ground f s)
    ≡ ((int_le (offsets f r).west (offsets f s).west && int_le (offsets f s).east (offsets f r).east) &&
    (int_le (offsets f r).north (offsets f s).north && int_le (offsets f s).south (offsets f r).south))
measured f r s =
    let outer = offsets f r in
    let inner = offsets f s in
    rw (
      same_start f.min_x outer.west inner.west,
      same_start f.min_x inner.east outer.east,
      turned_start f.max_y
          outer.south inner.south,
      turned_start f.max_y inner.north outer.north,
    )
    (regrouped (int_le outer.west inner.west) (int_le inner.east outer.east) (int_le inner.south outer.south)
    (int_le outer.north inner.north))

-- parts of both axes between the rectangle's edges are a place
measured_place : (f : Frame) (outer : Offsets) (zoom column row : ℤ) → GoodFrame f → has_level f zoom ≡ true
    → Edges f outer
    → (is_between outer.west outer.east (tile_span_x f zoom) column && is_between outer.north outer.south
    (tile_span_y f zoom) row) ≡ true
    → has_place f zoom column row ≡ true
measured_place f outer zoom column row good level edge h =
    let axes = and_parts (is_between outer.west outer.east (tile_span_x f zoom) column)
    (is_between outer.north outer.south (tile_span_y f zoom) row) h in
    let across = and_parts (int_le outer.west (column *ℤ tile_span_x f zoom))
    (int_le ((column +ℤ pos 1) *ℤ tile_span_x f zoom) outer.east) axes.0 in
    let down = and_parts (int_le outer.north (row *ℤ tile_span_y f zoom))
    (int_le ((row +ℤ pos 1) *ℤ tile_span_y f zoom) outer.south) axes.1 in
    let columns = within_axis f.min_x f.max_x _ f.tile_width _ column (grid_x f zoom good level)
    (omega (arith, ints, edge.west, across.0)) (omega (arith, ints, edge.east, across.1)) in
    let rows = within_axis f.min_y f.max_y _ f.tile_height _ row (grid_y f zoom good level)
    (omega (arith, ints, edge.north, down.0)) (omega (arith, ints, edge.south, down.1)) in
    rw (
      level,
      int_le_so (pos 0) column columns.0,
      int_lt_so column (width_at f (level_of f zoom)) columns.1,
      int_le_so (pos 0) row rows.0,
      int_lt_so row (height_at f (level_of f zoom)) rows.1,
    ) refl

inside_is : (f : Frame) (r : Rect) (zoom column row : ℤ) → GoodFrame f → is_good_rect f r ≡ true
    → has_level f zoom ≡ true
    → is_inside f r zoom column row ≡ (is_between (offsets f r).west (offsets f r).east (tile_span_x f zoom)
    column && is_between (offsets f r).north (offsets f r).south (tile_span_y f zoom) row)
inside_is f r zoom column row good rect level =
    ap (λ b. has_place f zoom column row && b) (measured f r (one_tile zoom column row))
    ∙ implied (has_place f zoom column row) _ (measured_place f (offsets f r) zoom column row good level
    (edges f r good rect))

-- the same, with the rectangle's offsets under a name
pub inside_at : (f : Frame) (r : Rect) (outer : Offsets) (zoom : ℤ) → outer ≡ offsets f r → GoodFrame f
    → is_good_rect f r ≡ true → has_level f zoom ≡ true → (column row : ℤ)
    → is_inside f r zoom column row ≡ (is_between outer.west outer.east (tile_span_x f zoom) column && is_between
    outer.north outer.south (tile_span_y f zoom) row)
inside_at f r outer zoom is good rect level column row = rw is (inside_is f r zoom column row good rect level)

-- a span's first place belongs to it
pub span_start : (column last_column row last_row : ℤ) → column ≤ℤ last_column → row ≤ℤ last_row
    → (is_within column last_column column && is_within row last_row row) ≡ true
span_start column last_column row last_row columns rows =
    rw (
      int_le_so column column (omega (arith, ints)),
      int_le_so column last_column columns,
      int_le_so row row
          (omega (arith, ints)),
      int_le_so row last_row rows,
    ) refl
