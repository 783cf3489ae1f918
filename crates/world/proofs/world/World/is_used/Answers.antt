-- What the members tell is told of the world.
use Rattle.std.proofs.Common.{sym}
use Rattle.world.proofs.Keeping.{room_stays}
use Rattle.world_members.proofs.Standing.{stay_length}
use Rattle.world.proofs.WorldsRead.{world_is_held, world_is_read, world_opens, world_tells}
use Rattle.world.proofs.world.World.is_used.Goals as goal

pub invariant_of-self : goal.invariant_of-self
invariant_of-self g c = (
  world_is_held g.S.Store _ _ _ _ _ _ _ c.was_used.result c.was_used.ensures
      c.self.invariant.0,
  room_stays _ _ c.self.inside.strays (sym (stay_length g.S.Store _ _ c.was_used.ensures.stay))
      c.self.invariant.1,
)

pub returns-clause-told : goal.returns-clause-told
returns-clause-told g c = world_tells g.S.Store _ _ _ c.self.inside.count c.self.inside.has_failed
    c.self.inside.strays.items c.self.inside.known c.was_used.result c.was_used.ensures c.args.self.now c.self.view_is

pub returns-clause-read : goal.returns-clause-read
returns-clause-read g c = world_is_read g.S.Store _ _ _ c.self.inside.count c.self.inside.has_failed
    c.self.inside.strays.items c.self.inside.known c.was_used.result c.was_used.ensures c.args.self.now c.self.view_is

pub returns-clause-opens : goal.returns-clause-opens
returns-clause-opens g c = world_opens g.S.Store _ _ _ c.self.inside.count c.self.inside.has_failed
    c.self.inside.strays.items c.self.inside.known c.was_used.result c.was_used.ensures c.args.self.now c.self.view_is
