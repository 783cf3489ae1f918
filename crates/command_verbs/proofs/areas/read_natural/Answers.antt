-- A text is that of one number at most.
use Rattle.std.proofs.Common.{FitsSigned, w64, rules, ◌<ℤ◌, pos}
use Rattle.command_verbs.proofs.Ends.{no_natural, negative}
use Rattle.command_verbs.proofs.areas.read_natural.Goals as goal

pub returns-in_err-number-clause-none : goal.returns-in_err-number-clause-none
returns-in_err-number-clause-none c = no_natural c.from_residual.result c.args.text.now c.in_err-number.ensures.none

pub returns-then-number-lt0-clause-none : goal.returns-then-number-lt0-clause-none
returns-then-number-lt0-clause-none c =
    let fits : FitsSigned w64 c.in_ok-number.number = search rules in
    negative c.in_ok-number.number c.args.text.now fits c.in_ok-number.ensures.some (search rules)
