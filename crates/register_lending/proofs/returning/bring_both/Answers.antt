-- The things come, and then the receipts.
use Rattle.sqlite.specs.Held.{state}
use Rattle.store_sql.proofs.Staying.{stays_then}
use Rattle.register_lending.proofs.WritingLoans.{brought_then}
use Rattle.register_lending.proofs.returning.bring_both.Goals as goal

pub returns-clause-child : goal.returns-clause-child
returns-clause-child g c = stays_then c.carry_over.ensures.source c.bring_home.ensures.source

pub returns-clause-steps : goal.returns-clause-steps
returns-clause-steps g c = brought_then c.args.selection.now (state g.S.Store c.args.child.now)
    (state g.S.Store c.carry_over.new.source) (state g.S.Store c.bring_home.new.source) c.carry_over.ensures.source
    c.in_ok-carry_over.ensures.opens c.bring_home.ensures.source c.in_ok-carry_over.ensures.steps
    c.bring_home.ensures.steps
