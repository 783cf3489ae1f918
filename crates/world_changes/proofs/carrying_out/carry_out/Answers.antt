-- The change, then the receipt, and then its moment.
use Rattle.store_sql.proofs.Transactions.{steps_failed}
use Rattle.world_members.proofs.Carrying.{receipt_then, moment_then, moment_said, moment_kept}
use Rattle.world_changes.proofs.carrying_out.carry_out.Goals as goal

pub returns-in_err-enter-clause-steps : goal.returns-in_err-enter-clause-steps
returns-in_err-enter-clause-steps g c = steps_failed _ c.from_residual-in_err-enter.ensures.0
    (receipt_then c.args.receipt.now c.args.command.now c.in_ok-make_change.ensures.steps c.enter.ensures.steps)

pub returns-clause-steps : goal.returns-clause-steps
returns-clause-steps g c = moment_then c.args.receipt.now c.args.command.now
    (receipt_then c.args.receipt.now c.args.command.now c.in_ok-make_change.ensures.steps c.in_ok-enter.ensures.steps)
    (rw c.as_str.ensures at c.date_contents.ensures.dated)

pub returns-in_err-enter-clause-dated : goal.returns-in_err-enter-clause-dated
returns-in_err-enter-clause-dated g c = steps_failed _ c.from_residual-in_err-enter.ensures.0
    (receipt_then c.args.receipt.now c.args.command.now c.in_ok-make_change.ensures.steps c.enter.ensures.steps)

pub returns-clause-dated : goal.returns-clause-dated
returns-clause-dated g c = moment_said c.args.receipt.now c.args.command.now
    (receipt_then c.args.receipt.now c.args.command.now c.in_ok-make_change.ensures.steps c.in_ok-enter.ensures.steps)
    (rw c.as_str.ensures at c.date_contents.ensures.dated)

pub returns-in_err-enter-clause-numbers : goal.returns-in_err-enter-clause-numbers
returns-in_err-enter-clause-numbers g c = steps_failed _ c.from_residual-in_err-enter.ensures.0
    (receipt_then c.args.receipt.now c.args.command.now c.in_ok-make_change.ensures.steps c.enter.ensures.steps)

pub returns-clause-numbers : goal.returns-clause-numbers
returns-clause-numbers g c = moment_kept c.args.receipt.now c.args.command.now
    (receipt_then c.args.receipt.now c.args.command.now c.in_ok-make_change.ensures.steps c.in_ok-enter.ensures.steps)
    (rw c.as_str.ensures at c.date_contents.ensures.dated)
