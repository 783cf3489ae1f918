-- Both come, then the receipt of the merge, and then its moment.
use Rattle.sqlite.specs.Held.{state}
use Rattle.store_sql.proofs.Transactions.{steps_failed}
use Rattle.register_lending.proofs.WritingLoans.{entered_then, home_then}
use Rattle.register_lending.proofs.returning.take_home_inside.Goals as goal

pub returns-in_err-enter-clause-steps : goal.returns-in_err-enter-clause-steps
returns-in_err-enter-clause-steps g c = steps_failed _ c.from_residual-in_err-enter.ensures.0
    (entered_then c.args.receipt.now c.args.selection.now (state g.S.Store c.bring_both.new.child)
    (state g.S.Store c.args.child.now).now c.in_ok-bring_both.ensures.steps c.enter.ensures.steps)

pub returns-clause-steps : goal.returns-clause-steps
returns-clause-steps g c = home_then c.args.receipt.now c.args.selection.now (state g.S.Store c.bring_both.new.child)
    (state g.S.Store c.args.child.now).now (entered_then c.args.receipt.now c.args.selection.now
    (state g.S.Store c.bring_both.new.child) (state g.S.Store c.args.child.now).now c.in_ok-bring_both.ensures.steps
    c.in_ok-enter.ensures.steps) (rw c.as_str.ensures at c.date_contents.ensures.dated)
