use Rattle.std.proofs.Common.{arith, FitsSigned, ◌*ℤ◌, ◌<ℤ◌, pos, lit<}
use mir.Syntax.{w128}
use Rattle.std.proofs.Math.Facts.{sfits_widen}
use Rattle.std.proofs.lemmas.Int.{ints, to_z-of_z}
use Rattle.matrix_rules.proofs.Products.{product_range, fits_between}
use Rattle.matrix_rules.proofs.check.pixels.Goals as goal

pub returns-clause-positive : goal.returns-clause-positive
returns-clause-positive c =
    let tiles = c.ranges.tiles in
    let tile = c.ranges.tile in
    let wide_tiles : FitsSigned w128 c.args.tiles = sfits_widen tt tiles in
    let wide_tile : FitsSigned w128 c.args.tile = sfits_widen tt tile in
    let range = product_range c.args.tiles c.args.tile 2305843009213693952 4096 c.requires.tiles.0 c.requires.tiles.1
    c.requires.tile.0 c.requires.tile.1 in
    let positive : pos 0 <ℤ (c.args.tiles *ℤ c.args.tile) = omega (arith, ints) in
    let fits : FitsSigned w128 (c.args.tiles *ℤ c.args.tile) =
    fits_between w128 (c.args.tiles *ℤ c.args.tile) (9444732965739290427392) (omega (arith, ints)) range.1
    (lit< tt) in
    simp to_z-of_z positive
