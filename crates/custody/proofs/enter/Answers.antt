use Rattle.custody.proofs.Entering.{receipt_steps}
use Rattle.custody.proofs.enter.Goals as goal

pub returns-clause-steps : goal.returns-clause-steps
returns-clause-steps g c = receipt_steps c.args.receipt.now c.in_ok-enter_row.ensures.steps
    (rw c.as_slice.ensures at c.enter_things.ensures.steps)
