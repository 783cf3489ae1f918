-- The first zoom is one of the frame, and within 20.
use Rattle.std.proofs.Common.{arith, refl, rules, FitsSigned, w64, ◌≤ℤ◌, ◌<ℤ◌, ◌+ℤ◌, pos}
use Rattle.std.proofs.lemmas.Int.{ints, to_z-of_z}
use Rattle.matrix_rules.proofs.Frames.{good_frame}
use Rattle.field_faults.proofs.heads.height_at_zero.Goals as goal

pub axes_at-axes-requires-clause-level : goal.axes_at-axes-requires-clause-level
axes_at-axes-requires-clause-level c =
    let f = c.args.frame.now in
    let good = good_frame f c.requires in
    let first : FitsSigned w64 f.first_zoom = omega (arith, ints, good.first_zoom, good.levels, good.zooms) in
    let low : f.first_zoom ≤ℤ f.first_zoom = omega (arith, ints) in
    let high : f.first_zoom <ℤ (f.first_zoom +ℤ f.levels) = omega (arith, ints, good.levels) in
    simp (to_z-of_z, first) (grind (arith, ints, low, high))

pub at_zero-requires-clause-zoom : goal.at_zero-requires-clause-zoom
at_zero-requires-clause-zoom c =
    let f = c.args.frame.now in
    let good = good_frame f c.requires in
    let first : FitsSigned w64 f.first_zoom = omega (arith, ints, good.first_zoom, good.levels, good.zooms) in
    let high : f.first_zoom ≤ℤ pos 20 = omega (arith, ints, good.levels, good.zooms) in
    simp (to_z-of_z, first) (good.first_zoom, high)

pub returns : goal.returns
returns c =
    let f = c.args.frame.now in
    let good = good_frame f c.requires in
    let first : FitsSigned w64 f.first_zoom = omega (arith, ints, good.first_zoom, good.levels, good.zooms) in
    let range = c.axes_at-axes.ensures.good.1.span in
    let span : FitsSigned w64 c.axes_at-axes.result.down.span = omega (arith, ints, range.0, range.1) in
    let size = simp (to_z-of_z, first, span) at c.at_zero.ensures in
    let axes = simp (to_z-of_z, first) at c.axes_at-axes.ensures.axes in
    let fits : FitsSigned w64 c.at_zero.result = search rules in
    simp (to_z-of_z, fits) (rw (size, axes) refl)
