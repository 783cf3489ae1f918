use Rattle.std.proofs.Common.{arith, rules, FitsSigned, ◌*ℤ◌, w64, lit<}
use Rattle.std.proofs.lemmas.Int.{ints, to_z-of_z}
use Rattle.matrix_rules.proofs.Products.{product_range, fits_between}
use Rattle.matrix_rules.proofs.check.tiles_at.Goals as goal

pub returns-clause-range : goal.returns-clause-range
returns-clause-range c =
    let matrix = c.ranges.matrix in
    let power : FitsSigned w64 c.doublings.result = search rules in
    let range = product_range c.args.matrix c.doublings.result 2000000000000 1048576 c.requires.matrix.0
    c.requires.matrix.1 c.doublings.ensures.range.0 c.doublings.ensures.range.1 in
    let fits : FitsSigned w64 (c.args.matrix *ℤ c.doublings.result) =
    fits_between w64 (c.args.matrix *ℤ c.doublings.result) 2097152000000000000 (omega (arith, ints)) range.1
    (lit< tt) in
    simp to_z-of_z (range.0, omega (arith, ints))
