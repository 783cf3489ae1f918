use Rattle.std.proofs.Common.{refl, to_z-of_z}
use Rattle.sqlite.specs.Held.{state}
use Rattle.sqlite.specs.Edit.{next_rowid}
use Rattle.sqlite.specs.declared.types.Value.TheVariants.{Int}
use Rattle.package_tables.specs.declared.rows.MappingRow.{MappingRow}
use Rattle.package_tables.proofs.Making.{enters}
use Rattle.package_tables.proofs.Written.{pairs_listed}
use Rattle.package_tables.proofs.Pairs.{inserts, inserts_row}
use Rattle.package_tables.proofs.mappings.insert_pair.Goals as goal

pub returns-clause-wrote : goal.returns-clause-wrote
returns-clause-wrote g c clean begun =
    let a = c.args in
    let m = a.mapping in
    let old = state g.S.Store a.tx.now.conn.now in
    let new = state g.S.Store c.execute.new.self.conn.now in
    let row : MappingRow = record { base_id = a.base_id; related_id = a.related_id } in
    enters (pairs_listed m) row (inserts m) (inserts_row m row) (λ there. (Int (next_rowid there), refl, refl)) old
    new c.execute.result _ c.drop_count.ensures _
    (rw (c.params-to_sql.ensures, c.params-to_sql-2.ensures)
    (simp (to_z-of_z, c.ranges.base_id, c.ranges.related_id) refl))
    (rw c.insert_text.ensures at (c.execute.ensures.runs clean begun))
