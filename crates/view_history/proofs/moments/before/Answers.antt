-- None stands before 0, and the one less before another.
use Rattle.std.proofs.Common.{◌∙◌, ap, sym, arith, rules, FitsSigned, w64, to_z-of_z}
use Rattle.view_history.specs.Told.{before_of}
use Rattle.view_history.proofs.Dates.{before_more}
use Rattle.view_history.proofs.moments.before.Goals as goal

pub returns-then-number-eq0 : goal.returns-then-number-eq0
returns-then-number-eq0 c = sym (ap before_of c.if-number-eq0.true)

pub returns : goal.returns
returns c =
    let fits : FitsSigned w64 c.in_ok-before.before = search rules in
    simp (to_z-of_z, fits) (c.in_ok-before.ensures.stored ∙ before_more c.args.number (omega (arith, c.if-number-eq0.false)))
