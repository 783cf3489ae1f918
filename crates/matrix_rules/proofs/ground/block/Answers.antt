use Rattle.std.proofs.Common.{arith, rules, refl, FitsSigned, ◌+ℤ◌, ◌-ℤ◌, w64}
use Rattle.std.proofs.lemmas.Int.{ints, to_z-of_z}
use Rattle.matrix_rules.proofs.Frames.{good_frame}
use Rattle.matrix_rules.proofs.ground.block.Goals as goal

pub overflow_add-result : goal.overflow_add-result
overflow_add-result c = let good = good_frame c.args.frame.now c.requires.good in omega
    (arith, ints, c.offsets_of-offsets.ensures.columns)

pub overflow_sub-result : goal.overflow_sub-result
overflow_sub-result c = let good = good_frame c.args.frame.now c.requires.good in omega
    (arith, ints, c.offsets_of-offsets.ensures.rows)

pub overflow_add-result-2 : goal.overflow_add-result-2
overflow_add-result-2 c = let good = good_frame c.args.frame.now c.requires.good in omega
    (arith, ints, c.offsets_of-offsets.ensures.columns)

pub overflow_sub-result-2 : goal.overflow_sub-result-2
overflow_sub-result-2 c = let good = good_frame c.args.frame.now c.requires.good in omega
    (arith, ints, c.offsets_of-offsets.ensures.rows)

pub returns : goal.returns
returns c =
    let good = good_frame c.args.frame.now c.requires.good in
    let low : FitsSigned w64 c.args.frame.now.min_x = omega (arith, ints) in
    let high : FitsSigned w64 c.args.frame.now.max_y = omega (arith, ints) in
    let west : FitsSigned w64 c.offsets_of-offsets.result.west = search rules in
    let east : FitsSigned w64 c.offsets_of-offsets.result.east = search rules in
    let north : FitsSigned w64 c.offsets_of-offsets.result.north = search rules in
    let south : FitsSigned w64 c.offsets_of-offsets.result.south = search rules in
    let west_edge : FitsSigned w64 (c.args.frame.now.min_x +ℤ c.offsets_of-offsets.result.west) =
    omega (arith, ints, c.offsets_of-offsets.ensures.columns) in
    let east_edge : FitsSigned w64 (c.args.frame.now.min_x +ℤ c.offsets_of-offsets.result.east) =
    omega (arith, ints, c.offsets_of-offsets.ensures.columns) in
    let north_edge : FitsSigned w64 (c.args.frame.now.max_y -ℤ c.offsets_of-offsets.result.north) =
    omega (arith, ints, c.offsets_of-offsets.ensures.rows) in
    let south_edge : FitsSigned w64 (c.args.frame.now.max_y -ℤ c.offsets_of-offsets.result.south) =
    omega (arith, ints, c.offsets_of-offsets.ensures.rows) in
    simp to_z-of_z (rw c.offsets_of-offsets.ensures.offsets refl)
