-- The word says the rectangle that was found.
use Rattle.std.proofs.lemmas.Int.{to_z-of_z}
use Rattle.command_lines.proofs.boxes.area_over.Goals as goal

pub returns-in-Ok : goal.returns-in-Ok
returns-in-Ok c =
    let zoom = c.ranges.zoom in
    let least = simp to_z-of_z at c.in-Some.ensures.some in
    let covered = simp to_z-of_z at c.in-Some.ensures.covered in
    (c.in-Some.rect, (covered, least), c.in-Ok.ensures)
