use Rattle.std.proofs.Common.{arith, rules, FitsSigned, ◌*ℤ◌, w64}
use Rattle.std.proofs.lemmas.Int.{ints, to_z-of_z}
use Rattle.matrix_rules.proofs.Axes.{along_axis}
use Rattle.matrix_rules.proofs.axis.Axis.start_of.Goals as goal

pub returns-clause-range : goal.returns-clause-range
returns-clause-range c =
    let tile = c.ranges.tile in
    let span : FitsSigned w64 c.args.self.span = search rules in
    let range = along_axis c.args.self.tiles c.args.self.span c.args.tile c.requires.axis.whole c.requires.axis.span.0
    c.requires.tile.0 c.requires.tile.1 in
    let fits : FitsSigned w64 (c.args.tile *ℤ c.args.self.span) = omega (arith, ints, range) in
    simp to_z-of_z range
