use Rattle.store_sql.proofs.Transactions.{steps_then, steps_failed}
use Rattle.identity_register.proofs.Joining.{ends_steps}
use Rattle.identity_register.proofs.changes.rows_of_ends.Goals as goal

pub returns-in_err-other-clause-steps : goal.returns-in_err-other-clause-steps
returns-in_err-other-clause-steps g c = steps_failed _ c.from_residual-in_err-other.ensures.0
    (steps_then c.in_ok-base.ensures.steps c.row_of_item-2.ensures.steps)

pub returns-clause-steps : goal.returns-clause-steps
returns-clause-steps g c = ends_steps c.args.base c.args.other c.in_ok-base.base c.in_ok-other.other
    c.in_ok-base.ensures.steps c.in_ok-other.ensures.steps
