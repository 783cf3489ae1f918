-- The frame is that of the world.
use Rattle.std.proofs.lemmas.Int.{to_z-of_z}
use Rattle.command_ordering.proofs.areas.area_in.Goals as goal

pub returns-in-Ok : goal.returns-in-Ok
returns-in-Ok g c =
    let zoom = c.ranges.zoom in
    let said = simp to_z-of_z at c.in-Ok.ensures in
    rw c.frame-frame.ensures at said
