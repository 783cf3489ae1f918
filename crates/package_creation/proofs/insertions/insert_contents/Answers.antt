use Rattle.std.proofs.Common.{refl, to_z-of_z}
use Rattle.sqlite.specs.Held.{state}
use Rattle.sqlite.specs.Edit.{next_rowid}
use Rattle.sqlite.specs.declared.types.Value.TheVariants.{Int}
use Rattle.package_tables.specs.declared.rows.ContentsRow.{ContentsRow}
use Rattle.package_tables.proofs.Making.{enters}
use Rattle.package_tables.proofs.FixedStatements.{contents_insert_text, contents_insert_row}
use Rattle.package_tables.proofs.Written.{contents_listed}
use Rattle.package_creation.proofs.insertions.insert_contents.Goals as goal

pub returns-clause-wrote : goal.returns-clause-wrote
returns-clause-wrote g c clean begun =
    let a = c.args in
    let old = state g.S.Store a.tx.now.conn.now in
    let new = state g.S.Store c.execute.new.self.conn.now in
    let row : ContentsRow = record {
      table_name = a.table_name.now;
      data_type = a.data_type.now;
      identifier = a.identifier.now;
      description = a.description.now;
      last_change = a.last_change.now;
      min_x = a.min_x;
      min_y = a.min_y;
      max_x = a.max_x;
      max_y = a.max_y;
      srs_id = a.srs_id;
    } in
    enters contents_listed row contents_insert_text (contents_insert_row row)
    (λ there. (Int (next_rowid there), refl, refl)) old new c.execute.result _ c.drop_count.ensures _
    (rw (
      c.params-to_sql.ensures,
      c.params-to_sql-2.ensures,
      c.params-to_sql-3.ensures,
      c.params-to_sql-4.ensures,
      c.params-to_sql-5.ensures,
      c.params-to_sql-6.ensures,
      c.params-to_sql-7.ensures,
      c.params-to_sql-8.ensures,
      c.params-to_sql-9.ensures,
      c.params-to_sql-10.ensures,
    )
    (simp (to_z-of_z, c.ranges.min_x, c.ranges.min_y, c.ranges.max_x, c.ranges.max_y, c.ranges.srs_id) refl))
    (c.execute.ensures.runs clean begun)
