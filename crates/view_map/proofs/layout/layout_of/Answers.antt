-- The two axes of a good frame, and the sides of a place by them.
use Rattle.std.proofs.Common.{arith, FitsSigned, w64}
use Rattle.std.proofs.lemmas.Int.{ints, to_z-of_z}
use Rattle.view_map.proofs.Bounds.{extent_fits, of_axes, product_range, span_range}
use Rattle.view_map.proofs.layout.layout_of.Goals as goal

pub side-requires-clause-own : goal.side-requires-clause-own
side-requires-clause-own c =
    let axis = c.axes_at-axes.ensures.good.0 in
    let fits : FitsSigned w64 c.axes_at-axes.result.across.span = omega (arith, ints, axis.span.0, axis.span.1) in
    rw c.unsigned_abs-across.ensures.value (simp to_z-of_z (span_range c.axes_at-axes.result.across.span axis.span.0
    axis.span.1))

pub side-requires-clause-other : goal.side-requires-clause-other
side-requires-clause-other c =
    let axis = c.axes_at-axes.ensures.good.1 in
    let fits : FitsSigned w64 c.axes_at-axes.result.down.span = omega (arith, ints, axis.span.0, axis.span.1) in
    rw c.unsigned_abs-down.ensures.value (simp to_z-of_z ((span_range c.axes_at-axes.result.down.span axis.span.0
    axis.span.1).0))

pub returns-clause-layout : goal.returns-clause-layout
returns-clause-layout c =
    let axes = c.axes_at-axes.result in
    let across = c.axes_at-axes.ensures.good.0 in
    let down = c.axes_at-axes.ensures.good.1 in
    let zoom = c.ranges.zoom in
    let fits1 : FitsSigned w64 c.axes_at-axes.result.across.span = omega (arith, ints, across.span.0, across.span.1) in
    let fits2 : FitsSigned w64 c.axes_at-axes.result.down.span = omega (arith, ints, down.span.0, down.span.1) in
    let fits3 : FitsSigned w64 c.axes_at-axes.result.across.tiles =
    omega (arith, ints, across.tiles.0, across.tiles.1) in
    let fits4 : FitsSigned w64 c.axes_at-axes.result.down.tiles = omega (arith, ints, down.tiles.0, down.tiles.1) in
    rw (
      c.unsigned_abs.ensures.value,
      c.unsigned_abs-2.ensures.value,
      c.side.ensures.side,
      c.side-2.ensures.side,
      c.unsigned_abs-across.ensures.value,
      c.unsigned_abs-down.ensures.value,
    )
    (simp to_z-of_z (of_axes c.args.frame.now c.args.zoom axes (simp to_z-of_z at c.axes_at-axes.ensures.axes)))

pub returns-clause-fits : goal.returns-clause-fits
returns-clause-fits c =
    let axes = c.axes_at-axes.result in
    let across = c.axes_at-axes.ensures.good.0 in
    let down = c.axes_at-axes.ensures.good.1 in
    let fits1 : FitsSigned w64 c.axes_at-axes.result.across.span = omega (arith, ints, across.span.0, across.span.1) in
    let fits2 : FitsSigned w64 c.axes_at-axes.result.down.span = omega (arith, ints, down.span.0, down.span.1) in
    let fits3 : FitsSigned w64 c.axes_at-axes.result.across.tiles =
    omega (arith, ints, across.tiles.0, across.tiles.1) in
    let fits4 : FitsSigned w64 c.axes_at-axes.result.down.tiles = omega (arith, ints, down.tiles.0, down.tiles.1) in
    record {
      across = rw (
        c.unsigned_abs.ensures.value,
        c.side.ensures.side,
        c.unsigned_abs-across.ensures.value,
        c.unsigned_abs-down.ensures.value,
      )
          (simp to_z-of_z (extent_fits _ _ _ (product_range axes.across.tiles axes.across.span 2000000000000
          across.tiles.0 across.span.0 across.whole)));
      down = rw (
        c.unsigned_abs-2.ensures.value,
        c.side-2.ensures.side,
        c.unsigned_abs-across.ensures.value,
        c.unsigned_abs-down.ensures.value,
      )
          (simp to_z-of_z (extent_fits _ _ _ (product_range axes.down.tiles axes.down.span 2000000000000 down.tiles.0
          down.span.0 down.whole)));
      wide = c.side.ensures.least;
      high = c.side-2.ensures.least;
    }
