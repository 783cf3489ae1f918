-- The hyphen tells which of the two forms it is.
use Rattle.command_verbs.proofs.Ends.{no_ends_alone, no_first, no_last}
use Rattle.command_verbs.proofs.areas.read_ends.Goals as goal

pub returns-in_err-only-clause-none : goal.returns-in_err-only-clause-none
returns-in_err-only-clause-none c = no_ends_alone c.from_residual.result c.args.text.now c.in_default.ensures.none
    c.in_err-only.ensures.none

pub returns-in_err-first-clause-none : goal.returns-in_err-first-clause-none
returns-in_err-first-clause-none c = no_first c.from_residual-in_err-first.result c.args.text.now c.in-Some.front.now
    c.in-Some.back.now c.in-Some.ensures.some c.in_err-first.ensures.none

pub returns-in_err-last-clause-none : goal.returns-in_err-last-clause-none
returns-in_err-last-clause-none c = no_last c.from_residual-in_err-last.result c.args.text.now c.in-Some.front.now
    c.in-Some.back.now c.in-Some.ensures.some c.in_err-last.ensures.none
