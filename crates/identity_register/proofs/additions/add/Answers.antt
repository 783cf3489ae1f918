use Rattle.identity_register.proofs.Rooms.{came}
use Rattle.identity_register.proofs.additions.add.Goals as goal

pub returns-then-came-clause-steps : goal.returns-then-came-clause-steps
returns-then-came-clause-steps g c = came (record { identity = c.args.identity; content = c.args.content.now })
    c.in_ok-came.came c.if-came.true c.in_ok-came.ensures.steps
