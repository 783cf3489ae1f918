-- The things come, and then the moment.
use Rattle.sqlite.specs.Held.{state}
use Rattle.register_lending.proofs.WritingLoans.{filled_then}
use Rattle.register_lending.proofs.lending.fill_inside.Goals as goal

pub returns-clause-steps : goal.returns-clause-steps
returns-clause-steps g c = filled_then c.args.selection.now c.args.at.now (state g.S.Store c.carry_over.new.source)
    (state g.S.Store c.args.source.now).now c.in_ok-carry_over.ensures.steps c.date_contents.ensures.dated
