-- The things go, then comes the receipt, and then its moment.
use Rattle.store_sql.proofs.Transactions.{steps_failed}
use Rattle.register_lending.proofs.WritingLoans.{taken_then, lent_then}
use Rattle.register_lending.proofs.lending.lend_inside.Goals as goal

pub returns-in_err-enter-clause-steps : goal.returns-in_err-enter-clause-steps
returns-in_err-enter-clause-steps g c = steps_failed _ c.from_residual-in_err-enter.ensures.0
    (taken_then c.args.receipt.now c.args.selection.now c.in_ok-take.ensures.steps c.enter.ensures.steps)

pub returns-clause-steps : goal.returns-clause-steps
returns-clause-steps g c = lent_then c.args.receipt.now c.args.selection.now
    (taken_then c.args.receipt.now c.args.selection.now c.in_ok-take.ensures.steps c.in_ok-enter.ensures.steps)
    (rw c.as_str.ensures at c.date_contents.ensures.dated)
