use Rattle.std.proofs.Common.{pos, refl, to_z-of_z}
use Rattle.sqlite.specs.Held.{state}
use Rattle.sqlite.specs.declared.types.Value.TheVariants.{Int}
use Rattle.package_tables.specs.declared.rows.RelationRow.{RelationRow}
use Rattle.package_tables.proofs.Making.{enters}
use Rattle.package_tables.proofs.FixedStatements.{relation_insert_text, relation_insert_row}
use Rattle.package_tables.proofs.Written.{relations_listed}
use Rattle.package_creation.proofs.insertions.insert_relation.Goals as goal

pub returns-clause-wrote : goal.returns-clause-wrote
returns-clause-wrote g c clean begun =
    let a = c.args in
    let old = state g.S.Store a.tx.now.conn.now in
    let new = state g.S.Store c.execute.new.self.conn.now in
    let row : RelationRow = record {
      id = a.id;
      base_table_name = a.base_table_name.now;
      base_primary_column = a.base_primary_column.now;
      related_table_name = a.related_table_name.now;
      related_primary_column = a.related_primary_column.now;
      relation_name = a.relation_name.now;
      mapping_table_name = a.mapping_table_name.now;
    } in
    enters relations_listed row relation_insert_text (relation_insert_row row) (λ there. (Int (pos 0), refl, refl))
    old new c.execute.result _ c.drop_count.ensures _
    (rw (
      c.params-to_sql.ensures,
      c.params-to_sql-2.ensures,
      c.params-to_sql-3.ensures,
      c.params-to_sql-4.ensures,
      c.params-to_sql-5.ensures,
      c.params-to_sql-6.ensures,
      c.params-to_sql-7.ensures,
    )
    (simp (to_z-of_z, c.ranges.id) refl))
    (c.execute.ensures.runs clean begun)
