-- What was answered of the holdings stays free, or is told.
use Rattle.std.proofs.Common.{◌∙◌}
use Rattle.world.specs.Worlds.{StandsFor}
use Rattle.command_field.proofs.Merging.{of_first, of_kept}
use Rattle.command_field.proofs.Told.{told_given}
use Rattle.command_field.proofs.asking.answer_in.Goals as goal

pub returns-clause-told : goal.returns-clause-told
returns-clause-told g c = λ clean. told_given (StandsFor g.S.Store c.args.world.now)
    c.args.ask.now c.args.number c.frame-frame.result c.args.holdings.now.items.now c.args.holdings.now.links.now
    c.args.held c.in_ok-first.first c.keep_free.result
    (λ w stands. c.frame-frame.ensures ∙ stands.frame)
    c.in_ok-first.ensures (c.keep_free.ensures.told clean)

pub returns-clause-merges : goal.returns-clause-merges
returns-clause-merges g c =
    of_kept c.in_ok-first.first c.keep_free.result
    (of_first c.frame-frame.result c.args.ask.now c.args.number c.args.holdings.now.items.now
    c.args.holdings.now.links.now c.args.held c.in_ok-first.first c.in_ok-first.ensures)
    c.keep_free.ensures.merges
