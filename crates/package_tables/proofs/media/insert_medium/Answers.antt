use Rattle.std.proofs.Common.{pos, refl, to_z-of_z}
use Rattle.sqlite.specs.Held.{state}
use Rattle.sqlite.specs.declared.types.Value.TheVariants.{Int}
use Rattle.package_tables.specs.declared.rows.MediaRow.{MediaRow}
use Rattle.package_tables.proofs.Making.{enters}
use Rattle.package_tables.proofs.MediumStatements.{insert_text, insert_row}
use Rattle.package_tables.proofs.Written.{media_listed}
use Rattle.package_tables.proofs.media.insert_medium.Goals as goal

pub returns-clause-wrote : goal.returns-clause-wrote
returns-clause-wrote g c clean begun =
    let a = c.args in
    let old = state g.S.Store a.tx.now.conn.now in
    let new = state g.S.Store c.execute.new.self.conn.now in
    let row : MediaRow = record { id = a.id; «data» = a.data.now; content_type = a.content_type.now } in
    enters media_listed row insert_text (insert_row row) (λ there. (Int (pos 0), refl, refl)) old new
    c.execute.result _ c.drop_count.ensures _
    (rw (c.params-to_sql.ensures, c.params-to_sql-2.ensures, c.params-to_sql-3.ensures)
    (simp (to_z-of_z, c.ranges.id) refl))
    (c.execute.ensures.runs clean begun)
