-- What is left is the package less the cut.
use Rattle.sqlite.specs.Held.{state}
use Rattle.store_sql.proofs.Transactions.{steps_answer}
use Rattle.register_lending.specs.Selecting.{TakesOut}
use Rattle.register_lending.proofs.Moved.{cut_out}
use Rattle.register_lending.proofs.moving.take.Goals as goal

pub returns-in-Ok-clause-steps : goal.returns-in-Ok-clause-steps
returns-in-Ok-clause-steps g c = steps_answer (λ _. TakesOut c.args.selection.now) tt
    (cut_out c.args.selection.now (state g.S.Store c.args.tx.now.conn.now).now
    (state g.S.Store c.take.new.tx.conn.now).now) c.in-Ok.ensures.steps
