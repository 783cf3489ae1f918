use Rattle.std.proofs.Common.{rules, to_z-of_z, FitsSigned, w64}
use Rattle.package_tables.specs.Changes.{Adds}
use Rattle.package_tables.specs.Listed.{tiles}
use Rattle.package_tables.proofs.Stepping.{makes_steps}
use Rattle.package_copy.proofs.entering.TileRowEntered.enter.Goals as goal

pub returns-clause-steps : goal.returns-clause-steps
returns-clause-steps g c =
    let row = c.args.self.now in
    let id : FitsSigned w64 row.id = search rules in
    let zoom_level : FitsSigned w64 row.zoom_level = search rules in
    let tile_column : FitsSigned w64 row.tile_column = search rules in
    let tile_row : FitsSigned w64 row.tile_row = search rules in
    makes_steps (Adds tiles row)
    (simp (to_z-of_z, id, zoom_level, tile_column, tile_row) at
    (rw c.as_slice.ensures at c.insert_tile.ensures.wrote)) c.insert_tile.ensures.survives
