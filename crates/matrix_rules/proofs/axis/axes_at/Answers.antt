use Rattle.std.proofs.Common.{arith, ap, refl}
use Rattle.std.proofs.lemmas.Int.{ints, to_z-of_z}
use Rattle.matrix_rules.specs.declared.axis.Axes.{Axes}
use Rattle.matrix_rules.proofs.Frames.{good_frame, level_range}
use Rattle.matrix_rules.proofs.Axes.{fits_words, across_pixels, down_pixels, across_axis, down_axis}
use Rattle.matrix_rules.proofs.axis.axes_at.Goals as goal

pub overflow_sub-level : goal.overflow_sub-level
overflow_sub-level c =
    let good = good_frame c.args.frame.now c.requires.good in
    let range = level_range c.args.frame.now c.args.zoom good c.requires.level in
    omega (arith, ints)

pub overflow_sub-frame : goal.overflow_sub-frame
overflow_sub-frame c = let good = good_frame c.args.frame.now c.requires.good in omega (arith, ints)

pub overflow_sub-frame-2 : goal.overflow_sub-frame-2
overflow_sub-frame-2 c = let good = good_frame c.args.frame.now c.requires.good in omega (arith, ints)

pub axis_of-requires : goal.axis_of-requires
axis_of-requires c =
    let zoom = c.ranges.zoom in
    let good = good_frame c.args.frame.now c.requires.good in
    let fit = fits_words c.args.frame.now c.args.zoom good c.requires.level in
    simp (
      to_z-of_z,
      zoom,
      fit.first_zoom,
      fit.level,
      fit.min_x,
      fit.max_x,
      fit.width,
      fit.tile_width,
      fit.matrix_width,
    ) (across_pixels c.args.frame.now c.args.zoom good c.requires.level)

pub axis_of-requires-2 : goal.axis_of-requires-2
axis_of-requires-2 c =
    let zoom = c.ranges.zoom in
    let good = good_frame c.args.frame.now c.requires.good in
    let fit = fits_words c.args.frame.now c.args.zoom good c.requires.level in
    simp (
      to_z-of_z,
      zoom,
      fit.first_zoom,
      fit.level,
      fit.min_y,
      fit.max_y,
      fit.height,
      fit.tile_height,
      fit.matrix_height,
    ) (down_pixels c.args.frame.now c.args.zoom good c.requires.level)

pub returns-clause-axes : goal.returns-clause-axes
returns-clause-axes c =
    let zoom = c.ranges.zoom in
    let fit = fits_words c.args.frame.now c.args.zoom (good_frame c.args.frame.now c.requires.good) c.requires.level in
    let across = simp (
      to_z-of_z,
      zoom,
      fit.first_zoom,
      fit.level,
      fit.min_x,
      fit.max_x,
      fit.width,
      fit.tile_width,
      fit.matrix_width,
    ) at c.axis_of.ensures in
    let down = simp (
      to_z-of_z,
      zoom,
      fit.first_zoom,
      fit.level,
      fit.min_y,
      fit.max_y,
      fit.height,
      fit.tile_height,
      fit.matrix_height,
    ) at c.axis_of-2.ensures in
    rw (across, down) refl

pub returns-clause-good : goal.returns-clause-good
returns-clause-good c =
    let good = good_frame c.args.frame.now c.requires.good in (
      rw (ap (λ (a : Axes). a.across) (returns-clause-axes c))
          (across_axis c.args.frame.now c.args.zoom good c.requires.level),
      rw
          (ap (λ (a : Axes). a.down) (returns-clause-axes c)) (down_axis c.args.frame.now c.args.zoom good
          c.requires.level),
    )
