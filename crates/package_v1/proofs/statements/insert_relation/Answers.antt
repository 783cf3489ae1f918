use Rattle.std.proofs.Common.{to_z-of_z}
use Rattle.sqlite.specs.Held.{state}
use Rattle.store_sql.proofs.Transactions.{write_steps}
use Rattle.store_sql.proofs.Writes.{writes_inside}
use Rattle.package_tables.specs.declared.rows.RelationRow.{RelationRow}
use Rattle.package_tables.proofs.Stepping.{settled_steps}
use Rattle.package_v1.specs.Migrating.{AddsRelation}
use Rattle.package_v1.proofs.Relating.{insert_text, params_of, relation_added}
use Rattle.package_v1.proofs.statements.insert_relation.Goals as goal

pub returns-clause-steps : goal.returns-clause-steps
returns-clause-steps g c =
    let a = c.args in
    let old = state g.S.Store a.tx.now.conn.now in
    let new = state g.S.Store c.execute.new.self.conn.now in
    let row : RelationRow = record {
      id = a.id;
      base_table_name = a.base.now;
      base_primary_column = a.base_column.now;
      related_table_name = a.related.now;
      related_primary_column = a.related_column.now;
      relation_name = a.name.now;
      mapping_table_name = a.mapping.now;
    } in
    settled_steps _ c.drop_count.ensures
    (write_steps (AddsRelation row) old new c.execute.result
    (λ clean begun. writes_inside (AddsRelation row) insert_text (params_of row) old new (relation_added row old new)
    c.execute.result
    (simp (to_z-of_z, c.ranges.id)
    at (rw (
      c.params-to_sql.ensures,
      c.params-to_sql-2.ensures,
      c.params-to_sql-3.ensures,
      c.params-to_sql-4.ensures,
      c.params-to_sql-5.ensures,
      c.params-to_sql-6.ensures,
      c.params-to_sql-7.ensures,
    ) at
    (c.execute.ensures.runs clean begun))))
    c.execute.ensures.survives)
