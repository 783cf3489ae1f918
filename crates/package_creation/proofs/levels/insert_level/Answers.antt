use Rattle.std.proofs.Common.{rules, to_z-of_z, FitsSigned, w64}
use Rattle.package_tables.specs.Listed.{matrices}
use Rattle.package_tables.specs.Changes.{Adds}
use Rattle.package_tables.specs.Fixed.{level_row}
use Rattle.package_tables.proofs.Stepping.{makes_steps}
use Rattle.package_creation.proofs.levels.insert_level.Goals as goal

pub returns-clause-steps : goal.returns-clause-steps
returns-clause-steps g c =
    let a = c.args in
    let zoom = c.ranges.zoom in
    let tile_width : FitsSigned w64 a.frame.now.tile_width = search rules in
    let tile_height : FitsSigned w64 a.frame.now.tile_height = search rules in
    let width : FitsSigned w64 c.axes_at-axes.result.across.tiles = search rules in
    let height : FitsSigned w64 c.axes_at-axes.result.down.tiles = search rules in
    let across : FitsSigned w64 c.axes_at-axes.result.across.pixel_size = search rules in
    let down : FitsSigned w64 c.axes_at-axes.result.down.pixel_size = search rules in
    let made = simp (to_z-of_z, zoom, tile_width, tile_height, width, height, across, down) at
    c.insert_tile_matrix.ensures.wrote in
    makes_steps (Adds matrices (level_row a.frame.now a.zoom))
    (rw (simp (to_z-of_z, zoom) at c.axes_at-axes.ensures.axes) at made)
    c.insert_tile_matrix.ensures.survives
