use Rattle.std.proofs.Common.{arith, rules, refl, FitsSigned, ◌*ℤ◌, w64}
use Rattle.std.proofs.lemmas.Int.{ints, to_z-of_z}
use Rattle.matrix_rules.proofs.axis.axis_of.Goals as goal

pub returns : goal.returns
returns c =
    let extent = c.ranges.extent in
    let tile = c.ranges.tile in
    let matrix = c.ranges.matrix in
    let level = c.ranges.level in
    let tiles : FitsSigned w64 c.tiles_at-tiles.result = search rules in
    let pixel : FitsSigned w64 c.pixel_size_of-pixel_size.result = search rules in
    let product = simp to_z-of_z at c.tiles_at-tiles.ensures.product in
    let size = rw product at (simp to_z-of_z at c.pixel_size_of-pixel_size.ensures.size) in
    let span : FitsSigned w64 (c.args.tile *ℤ c.pixel_size_of-pixel_size.result) =
    omega (arith, ints, simp to_z-of_z at c.pixel_size_of-pixel_size.ensures.span) in
    simp to_z-of_z (rw (size, product) refl)
