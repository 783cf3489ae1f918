use Rattle.std.proofs.Common.{pos, refl, to_z-of_z}
use Rattle.sqlite.specs.Held.{state}
use Rattle.sqlite.specs.declared.types.Value.TheVariants.{Int}
use Rattle.package_tables.specs.declared.rows.HeadRow.{HeadRow}
use Rattle.package_tables.proofs.Making.{enters}
use Rattle.package_tables.proofs.HeadStatements.{insert_text, insert_row}
use Rattle.package_tables.proofs.Written.{heads_listed}
use Rattle.package_tables.proofs.head.insert_head.Goals as goal

pub returns-clause-wrote : goal.returns-clause-wrote
returns-clause-wrote g c clean begun =
    let a = c.args in
    let old = state g.S.Store a.tx.now.conn.now in
    let new = state g.S.Store c.execute.new.self.conn.now in
    let row : HeadRow = record {
      id = a.id;
      version = a.version;
      «package» = a.package.now;
      parent = a.parent.now;
      depth = a.depth;
      loan = a.loan;
      created = a.created.now;
    } in
    enters heads_listed row insert_text (insert_row row) (λ there. (Int (pos 0), refl, refl)) old new
    c.execute.result _ c.drop_count.ensures _
    (rw (
      c.params-to_sql.ensures,
      c.params-to_sql-2.ensures,
      c.params-to_sql-3.ensures,
      c.params-to_sql-4.ensures,
      c.params-to_sql-5.ensures,
      c.params-to_sql-6.ensures,
      c.params-to_sql-7.ensures,
    )
    (simp (to_z-of_z, c.ranges.id, c.ranges.version, c.ranges.depth, c.ranges.loan) refl))
    (c.execute.ensures.runs clean begun)
