use Rattle.std.proofs.Common.{pos, refl, to_z-of_z}
use Rattle.sqlite.specs.Held.{state}
use Rattle.sqlite.specs.declared.types.Value.TheVariants.{Int}
use Rattle.package_tables.specs.declared.rows.TileRow.{TileRow}
use Rattle.package_tables.proofs.Making.{enters}
use Rattle.package_tables.proofs.TileStatements.{insert_text, insert_row}
use Rattle.package_tables.proofs.Written.{tiles_listed}
use Rattle.package_tables.proofs.tiles.insert_tile.Goals as goal

pub returns-clause-wrote : goal.returns-clause-wrote
returns-clause-wrote g c clean begun =
    let a = c.args in
    let old = state g.S.Store a.tx.now.conn.now in
    let new = state g.S.Store c.execute.new.self.conn.now in
    let row : TileRow = record {
      id = a.id;
      zoom_level = a.zoom_level;
      tile_column = a.tile_column;
      tile_row = a.tile_row;
      tile_data = a.tile_data.now;
    } in
    enters tiles_listed row insert_text (insert_row row) (λ there. (Int (pos 0), refl, refl)) old new
    c.execute.result _ c.drop_count.ensures _
    (rw (
      c.params-to_sql.ensures,
      c.params-to_sql-2.ensures,
      c.params-to_sql-3.ensures,
      c.params-to_sql-4.ensures,
      c.params-to_sql-5.ensures,
    ) (simp (
      to_z-of_z,
      c.ranges.id,
      c.ranges.zoom_level,
      c.ranges.tile_column,
      c.ranges.tile_row,
    ) refl))
    (c.execute.ensures.runs clean begun)
