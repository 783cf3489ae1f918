use Rattle.std.proofs.Common.{refl}
use Rattle.std.proofs.lemmas.Int.{to_z-of_z}
use Rattle.matrix_rules.proofs.ground.tile_inside.Goals as goal

pub returns : goal.returns
returns c =
    let zoom = c.ranges.zoom in
    let column = c.ranges.column in
    let row = c.ranges.row in
    let tile = simp to_z-of_z at c.one_tile.ensures in
    rw (c.lies_within.ensures, c.block-outer.ensures, c.block-tile.ensures, tile) refl
