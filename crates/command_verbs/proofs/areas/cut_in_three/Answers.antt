use Rattle.command_verbs.proofs.Threes.{no_slash_at_all, one_slash_alone}
use Rattle.command_verbs.proofs.areas.cut_in_three.Goals as goal

pub returns-in_err-one-clause-none : goal.returns-in_err-one-clause-none
returns-in_err-one-clause-none c = no_slash_at_all c.from_residual.result c.args.text.now c.in_err-one.ensures.none

pub returns-in_err-two-clause-none : goal.returns-in_err-two-clause-none
returns-in_err-two-clause-none c =
    one_slash_alone c.from_residual-in_err-two.result c.args.text.now c.in_ok-one.one.now c.in_ok-one.rest.now
    c.in_ok-one.ensures.some c.in_err-two.ensures.none
