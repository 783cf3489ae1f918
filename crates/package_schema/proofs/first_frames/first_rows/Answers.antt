use Rattle.std.proofs.Common.{true, pos}
use Rattle.std.specs.Ordering.{on, int_cmp}
use Rattle.store_sql.proofs.Staying.{looks_stays, stays_then}
use Rattle.package_tables.specs.Calls.{AreAll, AreThose}
use Rattle.package_tables.specs.Damaged.{AreFormedAt}
use Rattle.package_tables.specs.Package.{tables_of}
use Rattle.package_tables.specs.Shape.{rows_of, IsFormed}
use Rattle.package_tables.specs.Shapes.{contents_shape, relation_shape, spatial_ref_sys_shape, tile_matrix_set_shape}
use Rattle.package_tables.specs.Shapes.{tile_matrix_shape}
use Rattle.package_schema.specs.Frames.{AreRead}
use Rattle.package_schema.proofs.Seeing.{seen, seen_then, sees, fails}
use Rattle.package_schema.proofs.first_frames.first_rows.Goals as goal

pub returns : goal.returns
returns g c =
    let systems = seen (λ db found. IsFormed spatial_ref_sys_shape db
    → AreAll (on (λ x. x.srs_id) int_cmp) (rows_of spatial_ref_sys_shape db) found.items) c.in_ok-systems.was
    c.read_systems.ensures in
    let listed = seen_then (λ db found. IsFormed contents_shape db
    → AreThose (λ _. true) (rows_of contents_shape db) found.items) systems c.in_ok-listed.was
    c.read_contents.ensures in
    let sets = seen_then (λ db found. IsFormed tile_matrix_set_shape db
    → AreThose (λ _. true) (rows_of tile_matrix_set_shape db) found.items) listed c.in_ok-sets.was
    c.read_sets.ensures in
    let levels = seen_then (λ db found. IsFormed tile_matrix_shape db
    → AreAll (on (λ x. x.zoom_level) int_cmp) (rows_of tile_matrix_shape db) found.items) sets
    c.in_ok-levels.was c.read_levels.ensures in
    let related = seen_then (λ db found. IsFormed relation_shape db
    → AreAll (on (λ x. x.id) int_cmp) (rows_of relation_shape db) found.items) levels c.in_ok-related.was
    c.read_relations.ensures in
    sees (λ db found. AreFormedAt (pos 1) db → AreRead (tables_of db) found) related
    (λ db told formed. record {
      systems = told.0.0.0.0 formed.spatial_ref_sys;
      listed = told.0.0.0.1 formed.contents;
      sets = told.0.0.1 formed.tile_matrix_set;
      levels = told.0.1 formed.tile_matrix;
      related = told.1 formed.relations;
    })

-- a look that failed leaves the store as it was too
pub returns-in_err-systems : goal.returns-in_err-systems
returns-in_err-systems g c = fails c.from_residual.result c.from_residual.ensures.0 (looks_stays c.read_systems.ensures)

pub returns-in_err-listed : goal.returns-in_err-listed
returns-in_err-listed g c = fails c.from_residual-in_err-listed.result c.from_residual-in_err-listed.ensures.0
    (stays_then (looks_stays c.read_systems.ensures) (looks_stays c.read_contents.ensures))

pub returns-in_err-sets : goal.returns-in_err-sets
returns-in_err-sets g c = fails _ c.from_residual-in_err-sets.ensures.0
    (stays_then (stays_then (looks_stays c.read_systems.ensures) (looks_stays c.read_contents.ensures))
    (looks_stays c.read_sets.ensures))

pub returns-in_err-levels : goal.returns-in_err-levels
returns-in_err-levels g c =
    fails _ c.from_residual-in_err-levels.ensures.0
    (stays_then (stays_then (stays_then (looks_stays c.read_systems.ensures) (looks_stays c.read_contents.ensures))
    (looks_stays c.read_sets.ensures)) (looks_stays c.read_levels.ensures))

pub returns-in_err-related : goal.returns-in_err-related
returns-in_err-related g c =
    fails _ c.from_residual-in_err-related.ensures.0
    (stays_then (stays_then (stays_then (stays_then (looks_stays c.read_systems.ensures)
    (looks_stays c.read_contents.ensures)) (looks_stays c.read_sets.ensures)) (looks_stays c.read_levels.ensures))
    (looks_stays c.read_relations.ensures))
