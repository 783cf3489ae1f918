use Rattle.std.proofs.Common.{refl, to_z-of_z}
use Rattle.package_tables.proofs.Numbering.{looks_any}
use Rattle.package_tables.proofs.Written.{tiles_listed}
use Rattle.package_tables.proofs.TileStatements.{has_tile_at}
use Rattle.package_tables.proofs.tiles.has_tile_at.Goals as goal

pub returns : goal.returns
returns g c =
    let e = c.query_all.ensures in
    looks_any tiles_listed (has_tile_at c.args.zoom_level c.args.tile_column c.args.tile_row) (λ rows. rows.items) _
    (rw (c.params-to_sql.ensures, c.params-to_sql-2.ensures, c.params-to_sql-3.ensures)
    (simp (to_z-of_z, c.ranges.zoom_level, c.ranges.tile_column, c.ranges.tile_row) refl)) g.S.Store
    g.met.S.Store.shut_if_dirty g.met.S.Store.settled
    c.args.conn.now c.query_all.new.self c.requires c.query_all.result e.ok e.err e.mode e.survives c.has_any.result
    c.has_any.ensures.any
