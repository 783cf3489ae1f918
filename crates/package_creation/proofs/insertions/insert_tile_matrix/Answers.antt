use Rattle.std.proofs.Common.{refl, to_z-of_z}
use Rattle.sqlite.specs.Held.{state}
use Rattle.sqlite.specs.Edit.{next_rowid}
use Rattle.sqlite.specs.declared.types.Value.TheVariants.{Int}
use Rattle.package_tables.specs.declared.rows.TileMatrixRow.{TileMatrixRow}
use Rattle.package_tables.proofs.Making.{enters}
use Rattle.package_tables.proofs.FixedStatements.{tile_matrix_insert_text, tile_matrix_insert_row}
use Rattle.package_tables.proofs.Written.{matrices_listed}
use Rattle.package_creation.proofs.insertions.insert_tile_matrix.Goals as goal

pub returns-clause-wrote : goal.returns-clause-wrote
returns-clause-wrote g c clean begun =
    let a = c.args in
    let old = state g.S.Store a.tx.now.conn.now in
    let new = state g.S.Store c.execute.new.self.conn.now in
    let row : TileMatrixRow = record {
      table_name = a.table_name.now;
      zoom_level = a.zoom_level;
      matrix_width = a.matrix_width;
      matrix_height = a.matrix_height;
      tile_width = a.tile_width;
      tile_height = a.tile_height;
      pixel_x_size = a.pixel_x_size;
      pixel_y_size = a.pixel_y_size;
    } in
    enters matrices_listed row tile_matrix_insert_text (tile_matrix_insert_row row)
    (λ there. (Int (next_rowid there), refl, refl)) old new c.execute.result _ c.drop_count.ensures _
    (rw (
      c.params-to_sql.ensures,
      c.params-to_sql-2.ensures,
      c.params-to_sql-3.ensures,
      c.params-to_sql-4.ensures,
      c.params-to_sql-5.ensures,
      c.params-to_sql-6.ensures,
      c.params-to_sql-7.ensures,
      c.params-to_sql-8.ensures,
    )
    (simp (
      to_z-of_z,
      c.ranges.zoom_level,
      c.ranges.matrix_width,
      c.ranges.matrix_height,
      c.ranges.tile_width,
      c.ranges.tile_height,
      c.ranges.pixel_x_size,
      c.ranges.pixel_y_size,
    ) refl))
    (c.execute.ensures.runs clean begun)
