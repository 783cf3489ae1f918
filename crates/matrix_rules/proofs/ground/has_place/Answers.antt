use Rattle.std.proofs.Common.{rules, ◌≡◌, true, refl, FitsSigned, w64}
use Rattle.std.proofs.lemmas.Int.{to_z-of_z}
use Rattle.sheet_types.specs.Matrix.{has_level}
use Rattle.matrix_rules.proofs.ground.has_place.Goals as goal

pub returns : goal.returns
returns c =
    let zoom = c.ranges.zoom in
    let column = c.ranges.column in
    let row = c.ranges.row in
    let columns : FitsSigned w64 c.axes_at-axes.result.across.tiles = search rules in
    let rows : FitsSigned w64 c.axes_at-axes.result.down.tiles = search rules in
    let level : has_level c.args.frame.now c.args.zoom ≡ true = search rules in
    let axes = simp to_z-of_z at c.axes_at-axes.ensures.axes in
    simp to_z-of_z (rw (level, axes) refl)
