-- What the members tell is told of the world.
use Rattle.std.proofs.Common.{◌∙◌, ap}
use Rattle.world.proofs.Room.{room_of}
use Rattle.world.proofs.world.World.has_room.Goals as goal

pub returns : goal.returns
returns g c = room_of g.S.Store c.args.self.now c.as_slice.result.now c.self.inside.count c.args.more
    c.members_have_room.result
    (c.as_slice.ensures.value ∙ ap (λ s. s.members) c.self.view_is) (ap (λ s. s.count) c.self.view_is)
    c.members_have_room.ensures
