use Rattle.std.proofs.Common.{true}
use Rattle.std.specs.Ordering.{on, int_cmp}
use Rattle.store_sql.proofs.Staying.{looks_stays, stays_then}
use Rattle.package_tables.specs.Calls.{AreAll, AreThose}
use Rattle.package_tables.specs.Package.{tables_of, AreFormed}
use Rattle.package_schema.specs.Frames.{AreRead}
use Rattle.package_schema.proofs.Seeing.{seen, seen_then, sees, fails}
use Rattle.package_schema.proofs.frames.read_rows.Goals as goal

pub returns : goal.returns
returns g c =
    let systems = seen (λ db found. AreFormed db → AreAll (on (λ x. x.srs_id) int_cmp)
    (tables_of db).spatial_ref_sys
    found.items) c.in_ok-systems.was c.all_spatial_ref_sys.ensures in
    let listed = seen_then (λ db found. AreFormed db → AreThose (λ _. true) (tables_of db).contents found.items)
    systems c.in_ok-listed.was c.all_contents.ensures in
    let sets = seen_then (λ db found. AreFormed db → AreThose (λ _. true) (tables_of db).tile_matrix_set
    found.items)
    listed c.in_ok-sets.was c.all_tile_matrix_sets.ensures in
    let levels = seen_then (λ db found. AreFormed db → AreAll (on (λ x. x.zoom_level) int_cmp)
    (tables_of db).tile_matrix found.items) sets c.in_ok-levels.was c.all_tile_matrices.ensures in
    let related = seen_then (λ db found. AreFormed db → AreAll (on (λ x. x.id) int_cmp) (tables_of db).relations
    found.items) levels c.in_ok-related.was c.all_relations.ensures in
    sees (λ db found. AreFormed db → AreRead (tables_of db) found) related
    (λ db told formed. record {
      systems = told.0.0.0.0 formed;
      listed = told.0.0.0.1 formed;
      sets = told.0.0.1 formed;
      levels = told.0.1 formed;
      related = told.1 formed;
    })

-- a look that failed leaves the store as it was too
pub returns-in_err-systems : goal.returns-in_err-systems
returns-in_err-systems g c = fails c.from_residual.result c.from_residual.ensures.0
    (looks_stays c.all_spatial_ref_sys.ensures)

pub returns-in_err-listed : goal.returns-in_err-listed
returns-in_err-listed g c = fails c.from_residual-in_err-listed.result c.from_residual-in_err-listed.ensures.0
    (stays_then (looks_stays c.all_spatial_ref_sys.ensures) (looks_stays c.all_contents.ensures))

pub returns-in_err-sets : goal.returns-in_err-sets
returns-in_err-sets g c = fails _ c.from_residual-in_err-sets.ensures.0
    (stays_then (stays_then (looks_stays c.all_spatial_ref_sys.ensures) (looks_stays c.all_contents.ensures))
    (looks_stays c.all_tile_matrix_sets.ensures))

pub returns-in_err-levels : goal.returns-in_err-levels
returns-in_err-levels g c =
    fails _ c.from_residual-in_err-levels.ensures.0
    (stays_then (stays_then (stays_then (looks_stays c.all_spatial_ref_sys.ensures)
    (looks_stays c.all_contents.ensures)) (looks_stays c.all_tile_matrix_sets.ensures))
    (looks_stays c.all_tile_matrices.ensures))

pub returns-in_err-related : goal.returns-in_err-related
returns-in_err-related g c =
    fails _ c.from_residual-in_err-related.ensures.0
    (stays_then (stays_then (stays_then (stays_then (looks_stays c.all_spatial_ref_sys.ensures)
    (looks_stays c.all_contents.ensures)) (looks_stays c.all_tile_matrix_sets.ensures))
    (looks_stays c.all_tile_matrices.ensures)) (looks_stays c.all_relations.ensures))
