use Rattle.std.proofs.Common.{arith, rules, FitsSigned, ◌-ℤ◌, pos, w64}
use Rattle.std.specs.Prelude.{int_div}
use Rattle.std.proofs.lemmas.Int.{ints, to_z-of_z}
use Rattle.command_boxes.proofs.Stretches.{stretch_of}
use Rattle.command_boxes.proofs.covering.tiles_over.Goals as goal

pub returns : goal.returns
returns c =
    let low = c.ranges.low in
    let high = c.ranges.high in
    let span : FitsSigned w64 c.args.axis.span = search rules in
    let front : FitsSigned w64 (c.args.high -ℤ pos 1) = omega (arith, ints) in
    let stretch = stretch_of c.args.axis.tiles c.args.axis.span c.args.low c.args.high c.requires.axis.tiles.0
    c.requires.axis.span.0
    c.requires.stretch.0 c.requires.stretch.1 c.requires.stretch.2 in
    let first : FitsSigned w64 (int_div c.args.low c.args.axis.span) =
    omega (arith, ints, stretch.within, c.requires.axis.tiles) in
    let last : FitsSigned w64 (int_div (c.args.high -ℤ pos 1) c.args.axis.span) =
    omega (arith, ints, stretch.within, c.requires.axis.tiles) in
    simp to_z-of_z stretch
