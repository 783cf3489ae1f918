use Rattle.std.proofs.Common.{refl}
use Rattle.std.proofs.lemmas.Int.{to_z-of_z}
use Rattle.matrix_rules.proofs.ground.point_inside.Goals as goal

pub returns : goal.returns
returns c =
    let x = c.ranges.x in
    let y = c.ranges.y in
    let test = simp to_z-of_z at c.has_point.ensures in
    rw (test, c.block.ensures) refl
