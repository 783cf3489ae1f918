-- A text is cut at its first comma.
use Rattle.std.proofs.Common.{FitsSigned, w64, rules}
use Rattle.std.proofs.lemmas.Int.{to_z-of_z}
use Rattle.command_verbs.proofs.Units.{no_comma, no_across, no_up, point_of}
use Rattle.command_verbs.proofs.points.read_point.Goals as goal

pub returns-in_err-across-clause-none : goal.returns-in_err-across-clause-none
returns-in_err-across-clause-none c = no_comma c.from_residual.result c.args.text.now c.in_err-across.ensures.none

pub returns-in_err-x-clause-none : goal.returns-in_err-x-clause-none
returns-in_err-x-clause-none c = no_across c.from_residual-in_err-x.result c.args.text.now c.in_ok-across.across.now
    c.in_ok-across.up.now c.in_ok-across.ensures.some c.in_err-x.ensures.none

pub returns-in_err-y-clause-none : goal.returns-in_err-y-clause-none
returns-in_err-y-clause-none c = no_up c.from_residual-in_err-y.result c.args.text.now c.in_ok-across.across.now
    c.in_ok-across.up.now c.in_ok-across.ensures.some c.in_err-y.ensures.none

pub returns-clause-some : goal.returns-clause-some
returns-clause-some c =
    let x : FitsSigned w64 c.in_ok-x.x = search rules in
    let y : FitsSigned w64 c.in_ok-y.y = search rules in
    simp to_z-of_z (point_of c.args.text.now c.in_ok-across.across.now c.in_ok-across.up.now
    c.in_ok-across.ensures.some (record { x = c.in_ok-x.x; y = c.in_ok-y.y }) c.in_ok-x.ensures.some
    c.in_ok-y.ensures.some)
