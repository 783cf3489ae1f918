-- What comes is the cut.
use Rattle.sqlite.specs.Held.{state}
use Rattle.store_sql.proofs.Transactions.{steps_answer}
use Rattle.custody.specs.Homing.{FromClean}
use Rattle.register_lending.specs.Selecting.{CarriesOver}
use Rattle.register_lending.proofs.Moved.{cut_in}
use Rattle.register_lending.proofs.moving.carry.Goals as goal

pub returns-in-Ok-clause-steps : goal.returns-in-Ok-clause-steps
returns-in-Ok-clause-steps g c =
    steps_answer (λ _. FromClean (state g.S.Store c.carry_over.new.source)
    (CarriesOver c.args.selection.now (state g.S.Store c.args.source.now).now)) tt
    (cut_in c.args.selection.now (state g.S.Store c.args.source.now) (state g.S.Store c.carry_over.new.source)
    (state g.S.Store c.args.tx.now.conn.now).now (state g.S.Store c.carry_over.new.tx.conn.now).now)
    c.in-Ok.ensures.steps
