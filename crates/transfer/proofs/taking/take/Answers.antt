use Rattle.sqlite.specs.Held.{state}
use Rattle.store_sql.proofs.Transactions.{steps_answer}
use Rattle.identity_register.specs.LocalNumbers.{Shrinks}
use Rattle.transfer.specs.Parcels.{names_of, IsSelection, without_names}
use Rattle.transfer.proofs.Going.{selection_out}
use Rattle.transfer.proofs.taking.take.Goals as goal

pub returns-in-Ok-clause-steps : goal.returns-in-Ok-clause-steps
returns-in-Ok-clause-steps g c =
    let names = names_of c.args.selection.now in
    steps_answer (λ _. Shrinks (IsSelection names) (without_names names)) tt
    (selection_out names (state g.S.Store c.args.tx.now.conn.now).now
    (state g.S.Store c.drop_each.new.tx.conn.now).now) c.in-Ok.ensures.steps
