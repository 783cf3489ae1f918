-- The archive alone is a world.
use Rattle.std.proofs.Common.{ap, not, arith, length}
use Rattle.std.specs.Option.{is_some}
use Rattle.world.proofs.Beginning.{begins, held_first}
use Rattle.world.proofs.world.World.create.Goals as goal

pub invariant_of-result : goal.invariant_of-result
invariant_of-result g c = (
  held_first g.S.Store c.args.archive c.args.frame.now c.in_ok-members.members.items _ _ c.in_ok-room.ensures.0
      c.in_ok-members.ensures.rests (ap (λ o. not (is_some o)) c.in_default.ensures) c.in_ok-members.ensures.made,
  omega (arith, c.in_ok-members.ensures.one, ap length c.in_ok-room.ensures.0, c.in_ok-room.ensures.1),
)

pub returns-clause-made : goal.returns-clause-made
returns-clause-made g c = begins g.S.Store c.args.archive c.args.frame.now c.in_ok-members.members.items _ _
    c.in_ok-members.ensures.made
