use Rattle.std.proofs.Common.{refl, to_z-of_z}
use Rattle.sqlite.specs.Held.{state}
use Rattle.sqlite.specs.Edit.{next_rowid}
use Rattle.sqlite.specs.declared.types.Value.TheVariants.{Int}
use Rattle.package_tables.specs.declared.rows.IdentityRow.{IdentityRow}
use Rattle.package_tables.proofs.Making.{enters}
use Rattle.package_tables.proofs.IdentityStatements.{insert_text, insert_row}
use Rattle.package_tables.proofs.Written.{identities_listed}
use Rattle.package_tables.proofs.identities.insert_identity.Goals as goal

pub returns-clause-wrote : goal.returns-clause-wrote
returns-clause-wrote g c clean begun =
    let a = c.args in
    let old = state g.S.Store a.tx.now.conn.now in
    let new = state g.S.Store c.execute.new.self.conn.now in
    let row : IdentityRow = record { kind = a.kind; local_id = a.local_id; uuid = a.uuid.now } in
    enters identities_listed row insert_text (insert_row row) (λ there. (Int (next_rowid there), refl, refl)) old new
    c.execute.result _ c.drop_count.ensures _
    (rw (c.params-to_sql.ensures, c.params-to_sql-2.ensures, c.params-to_sql-3.ensures)
    (simp (to_z-of_z, c.ranges.kind, c.ranges.local_id) refl))
    (c.execute.ensures.runs clean begun)
