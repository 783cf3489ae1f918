-- A read of a store at rest is a question.
use Rattle.std.proofs.lemmas.Int.{to_z-of_z}
use Rattle.identity_register.proofs.Reaching.{asks_of}
use Rattle.identity_register.proofs.reach.ConnectionReach.tiles_in.Goals as goal

pub returns : goal.returns
returns g c =
    let zoom = c.ranges.zoom in
    asks_of g.S.Store c.tiles_in.result (simp to_z-of_z at c.tiles_in.ensures)
