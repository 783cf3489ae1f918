-- Members that stand for a world are one.
use Rattle.std.proofs.Common.{ap, length, arith}
use Rattle.world.specs.Worlds.{seen_of}
use Rattle.world.proofs.Beginning.{held_gathered}
use Rattle.world.proofs.world.World.from_members.Goals as goal

pub invariant_of-result : goal.invariant_of-result
invariant_of-result g c = (
  held_gathered g.S.Store c.args.frame c.args.members.items c.args.count _ c.args.known c.requires.room.0
      c.requires.rests c.requires.good c.requires.counted c.requires.stands,
  omega
      (arith, ap length c.requires.room.0, c.requires.room.1),
)

pub returns : goal.returns
returns g c = ap (λ strays. record (seen_of c.args.frame c.args.members.items c.args.count c.args.known)
    { strays = strays }) c.requires.room.0
