use Rattle.std.proofs.Common.{arith}
use Rattle.std.proofs.lemmas.Int.{ints, to_z-of_z}
use Rattle.matrix_rules.proofs.Products.{pixel_range}
use Rattle.matrix_rules.proofs.axis.pixel_size_of.Goals as goal

pub nonzero_div-result : goal.nonzero_div-result
nonzero_div-result c =
    let extent = c.ranges.extent in
    let tile = c.ranges.tile in
    let tiles = c.ranges.tiles in
    let fit = pixel_range c.args.extent c.args.tile c.args.tiles c.requires.some.0 c.requires.some.1 c.requires.pixels
    c.requires.extent in
    simp (to_z-of_z, extent, tile, tiles, fit.pixels) (omega (arith, ints, fit.some), fit.size)

pub returns-clause-span : goal.returns-clause-span
returns-clause-span c =
    let extent = c.ranges.extent in
    let tile = c.ranges.tile in
    let tiles = c.ranges.tiles in
    let fit = pixel_range c.args.extent c.args.tile c.args.tiles c.requires.some.0 c.requires.some.1 c.requires.pixels
    c.requires.extent in
    simp (to_z-of_z, extent, tile, tiles, fit.pixels, fit.size) fit.span
