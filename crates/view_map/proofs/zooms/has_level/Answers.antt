use Rattle.std.proofs.Common.{arith, refl, FitsSigned, ◌+ℤ◌, w64}
use Rattle.std.proofs.lemmas.Int.{ints, to_z-of_z}
use Rattle.matrix_rules.proofs.Frames.{good_frame}
use Rattle.view_map.proofs.zooms.has_level.Goals as goal

pub overflow_add-end : goal.overflow_add-end
overflow_add-end c = let good = good_frame c.args.frame.now c.requires in omega (arith, ints)

pub returns : goal.returns
returns c =
    let good = good_frame c.args.frame.now c.requires in
    let zoom = c.ranges.zoom in
    let first : FitsSigned w64 c.args.frame.now.first_zoom = omega (arith, ints) in
    let levels : FitsSigned w64 c.args.frame.now.levels = omega (arith, ints) in
    let end : FitsSigned w64 (c.args.frame.now.first_zoom +ℤ c.args.frame.now.levels) = omega (arith, ints) in
    simp to_z-of_z refl
