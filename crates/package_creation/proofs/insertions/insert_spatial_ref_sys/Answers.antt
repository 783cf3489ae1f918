use Rattle.std.proofs.Common.{pos, refl, to_z-of_z}
use Rattle.sqlite.specs.Held.{state}
use Rattle.sqlite.specs.declared.types.Value.TheVariants.{Int}
use Rattle.package_tables.specs.declared.rows.SpatialRefSysRow.{SpatialRefSysRow}
use Rattle.package_tables.proofs.Making.{enters}
use Rattle.package_tables.proofs.FixedStatements.{spatial_ref_sys_insert_text, spatial_ref_sys_insert_row}
use Rattle.package_tables.proofs.Written.{systems_listed}
use Rattle.package_creation.proofs.insertions.insert_spatial_ref_sys.Goals as goal

pub returns-clause-wrote : goal.returns-clause-wrote
returns-clause-wrote g c clean begun =
    let a = c.args in
    let old = state g.S.Store a.tx.now.conn.now in
    let new = state g.S.Store c.execute.new.self.conn.now in
    let row : SpatialRefSysRow = record {
      srs_name = a.srs_name.now;
      srs_id = a.srs_id;
      organization = a.organization.now;
      organization_coordsys_id = a.organization_coordsys_id;
      definition = a.definition.now;
      description = a.description.now;
    } in
    enters systems_listed row spatial_ref_sys_insert_text (spatial_ref_sys_insert_row row)
    (λ there. (Int (pos 0), refl, refl)) old new c.execute.result _ c.drop_count.ensures _
    (rw (
      c.params-to_sql.ensures,
      c.params-to_sql-2.ensures,
      c.params-to_sql-3.ensures,
      c.params-to_sql-4.ensures,
      c.params-to_sql-5.ensures,
      c.params-to_sql-6.ensures,
    )
    (simp (to_z-of_z, c.ranges.srs_id, c.ranges.organization_coordsys_id) refl))
    (c.execute.ensures.runs clean begun)
