use Rattle.std.proofs.Common.{rules, ◌≡◌, refl, true, false}
use Rattle.std.proofs.lemmas.Int.{to_z-of_z}
use Rattle.sheet_types.specs.Matrix.{has_place}
use Rattle.matrix_rules.proofs.ground.ground.Goals as goal

pub returns-then-has_place : goal.returns-then-has_place
returns-then-has_place c =
    let zoom = c.ranges.zoom in
    let column = c.ranges.column in
    let row = c.ranges.row in
    let there : has_place c.args.frame.now c.args.zoom c.args.column c.args.row ≡ true = search rules in
    let tile = simp to_z-of_z at c.one_tile.ensures in
    rw (there, c.block.ensures, tile) refl

pub returns-else-has_place : goal.returns-else-has_place
returns-else-has_place c =
    let there : has_place c.args.frame.now c.args.zoom c.args.column c.args.row ≡ false = search rules in
    rw there refl
