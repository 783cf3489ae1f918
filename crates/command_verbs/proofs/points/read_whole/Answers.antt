-- A text is that of one number at most.
use Rattle.std.proofs.Common.{FitsSigned, w64, ◌<ℤ◌, rules}
use Rattle.command_verbs.specs.Points.{most_units}
use Rattle.command_verbs.proofs.Sizes.{too_many}
use Rattle.command_verbs.proofs.points.read_whole.Goals as goal

pub returns-then-units-gt1000000000000-clause-none : goal.returns-then-units-gt1000000000000-clause-none
returns-then-units-gt1000000000000-clause-none c =
    let fits : FitsSigned w64 c.in_ok-units.units = search rules in
    let high : most_units <ℤ c.in_ok-units.units = search rules in
    too_many c.in_ok-units.units c.args.text.now fits c.in_ok-units.ensures.some high
