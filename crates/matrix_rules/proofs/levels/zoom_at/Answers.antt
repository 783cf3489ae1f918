use Rattle.std.proofs.Common.{◌≡◌, ◌+ℤ◌, ◌≤ℤ◌, pos, refl, arith, FitsSigned, w64, to_z}
use Rattle.std.proofs.lemmas.Int.{ints, to_z-of_z, to_z_pos}
use Rattle.matrix_rules.proofs.Frames.{good_frame}
use Rattle.matrix_rules.proofs.Deep.{small_level}
use Rattle.matrix_rules.proofs.levels.zoom_at.Goals as goal

pub overflow_cast-result : goal.overflow_cast-result
overflow_cast-result c =
    let small = small_level c.args.frame.now c.args.level (good_frame c.args.frame.now c.requires.good)
    c.requires.level in
    omega (arith, ints, small.0)

pub overflow_add-result : goal.overflow_add-result
overflow_add-result c =
    let good = good_frame c.args.frame.now c.requires.good in
    let small = small_level c.args.frame.now c.args.level good c.requires.level in
    let first : FitsSigned w64 c.args.frame.now.first_zoom = omega (arith, ints, good.first_zoom, small.2) in
    let level : to_z w64 c.args.level ≡ pos c.args.level = to_z_pos w64 c.args.level (omega (arith, small.0)) in
    let sum : FitsSigned w64 (c.args.frame.now.first_zoom +ℤ pos c.args.level) =
    omega (arith, ints, good.first_zoom, small.2) in
    simp (to_z-of_z, first, level) sum

pub returns-clause-zoom : goal.returns-clause-zoom
returns-clause-zoom c =
    let good = good_frame c.args.frame.now c.requires.good in
    let small = small_level c.args.frame.now c.args.level good c.requires.level in
    let first : FitsSigned w64 c.args.frame.now.first_zoom = omega (arith, ints, good.first_zoom, small.2) in
    let level : to_z w64 c.args.level ≡ pos c.args.level = to_z_pos w64 c.args.level (omega (arith, small.0)) in
    let sum : FitsSigned w64 (c.args.frame.now.first_zoom +ℤ pos c.args.level) =
    omega (arith, ints, good.first_zoom, small.2) in
    simp (to_z-of_z, first, level, sum) refl

pub returns-clause-level : goal.returns-clause-level
returns-clause-level c =
    let f = c.args.frame.now in
    let good = good_frame c.args.frame.now c.requires.good in
    let small = small_level c.args.frame.now c.args.level good c.requires.level in
    let first : FitsSigned w64 c.args.frame.now.first_zoom = omega (arith, ints, good.first_zoom, small.2) in
    let level : to_z w64 c.args.level ≡ pos c.args.level = to_z_pos w64 c.args.level (omega (arith, small.0)) in
    let sum : FitsSigned w64 (c.args.frame.now.first_zoom +ℤ pos c.args.level) =
    omega (arith, ints, good.first_zoom, small.2) in
    let low : f.first_zoom ≤ℤ (f.first_zoom +ℤ pos c.args.level) = omega (arith, ints) in
    simp (to_z-of_z, first, level, sum) (grind (arith, ints, low, small.1))
