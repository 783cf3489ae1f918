use Rattle.std.proofs.Common.{refl, to_z-of_z}
use Rattle.package_tables.proofs.Numbering.{looks_numbers}
use Rattle.package_tables.proofs.Written.{tiles_listed}
use Rattle.package_tables.proofs.TileStatements.{tile_ids_between}
use Rattle.package_tables.proofs.tiles.tile_ids_between.Goals as goal

pub returns : goal.returns
returns g c =
    let e = c.query_all.ensures in
    looks_numbers tiles_listed (tile_ids_between c.args.zoom_level c.args.first_column c.args.last_column
    c.args.first_row c.args.last_row) (λ rows. rows.items) _
    (rw (
      c.params-to_sql.ensures,
      c.params-to_sql-2.ensures,
      c.params-to_sql-3.ensures,
      c.params-to_sql-4.ensures,
      c.params-to_sql-5.ensures,
    ) (simp (
      to_z-of_z,
      c.ranges.zoom_level,
      c.ranges.first_column,
      c.ranges.last_column,
      c.ranges.first_row,
      c.ranges.last_row,
    ) refl)) g.S.Store g.met.S.Store.shut_if_dirty g.met.S.Store.settled
    c.args.conn.now c.query_all.new.self c.requires c.query_all.result e.ok e.err e.mode e.survives
    (λ found. found.items) c.all_of.result c.all_of.ensures.values
