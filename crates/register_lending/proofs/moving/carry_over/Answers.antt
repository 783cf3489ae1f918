-- The last read tells that the source is open.
use Rattle.sqlite.specs.Held.{state}
use Rattle.store_sql.proofs.Staying.{looks_stays, stays_then}
use Rattle.store_sql.proofs.Transactions.{steps_failed, steps_weaker}
use Rattle.custody.specs.Homing.{FromClean}
use Rattle.register_lending.specs.Selecting.{CarriesOver}
use Rattle.register_lending.proofs.Moved.{later}
use Rattle.register_lending.proofs.moving.carry_over.Goals as goal

pub returns-in_err-receipt_after-clause-source : goal.returns-in_err-receipt_after-clause-source
returns-in_err-receipt_after-clause-source g c = stays_then c.in_ok-carry.ensures.source
    (looks_stays c.receipt_after.ensures)

pub returns-in_err-receipt_after-clause-steps : goal.returns-in_err-receipt_after-clause-steps
returns-in_err-receipt_after-clause-steps g c = steps_failed _ c.from_residual-in_err-receipt_after.ensures.0
    c.in_ok-carry.ensures.steps

pub returns-clause-source : goal.returns-clause-source
returns-clause-source g c = stays_then c.in_ok-carry.ensures.source (looks_stays c.receipt_after.ensures)

pub returns-clause-opens : goal.returns-clause-opens
returns-clause-opens g c clean = (c.in_ok-receipt_after.ensures.done clean).0

pub returns-clause-steps : goal.returns-clause-steps
returns-clause-steps g c = later c.args.selection.now (state g.S.Store c.args.source.now)
    (state g.S.Store c.carry.new.source) (state g.S.Store c.receipt_after.new.conn)
    (looks_stays c.receipt_after.ensures) c.in_ok-carry.ensures.steps
