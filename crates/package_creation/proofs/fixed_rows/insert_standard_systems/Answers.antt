use Rattle.std.proofs.Common.{[], ◌∷◌, refl, pos, negsuc, codes}
use Rattle.store_sql.proofs.Transactions.{steps_failed}
use Rattle.package_tables.specs.Fixed.{system, standard_systems}
use Rattle.package_tables.specs.declared.rows.SpatialRefSysRow.{SpatialRefSysRow}
use Rattle.package_tables.proofs.Written.{systems_listed}
use Rattle.package_tables.proofs.InTurn.{entered_by, made_then}
use Rattle.package_creation.proofs.fixed_rows.insert_standard_systems.Goals as goal

abbrev cartesian : SpatialRefSysRow
cartesian = system (codes "undefined cartesian") (negsuc 0) (codes "NONE") (codes "undefined")

abbrev geographic : SpatialRefSysRow
geographic = system (codes "undefined geographic") (pos 0) (codes "NONE") (codes "undefined")

abbrev wgs : SpatialRefSysRow
wgs = system (codes "WGS 84") (pos 4326) (codes "EPSG") (codes "profile")

pub returns-clause-steps : goal.returns-clause-steps
returns-clause-steps g c =
    let one = c.in_ok-insert_spatial_ref_sys.ensures in
    let two = c.in_ok-insert_spatial_ref_sys-2.ensures in
    let three = c.insert_spatial_ref_sys-3.ensures in
    made_then systems_listed [] (cartesian ∷ geographic ∷ []) standard_systems
    (made_then systems_listed [] (cartesian ∷ []) (cartesian ∷ geographic ∷ [])
    (entered_by systems_listed cartesian [] (cartesian ∷ []) refl refl one.wrote one.survives)
    (entered_by systems_listed geographic (cartesian ∷ []) (cartesian ∷ geographic ∷ []) refl refl two.wrote
    two.survives))
    (entered_by systems_listed wgs (cartesian ∷ geographic ∷ []) standard_systems refl refl three.wrote
    three.survives)

pub returns-in_err-insert_spatial_ref_sys-clause-steps : goal.returns-in_err-insert_spatial_ref_sys-clause-steps
returns-in_err-insert_spatial_ref_sys-clause-steps g c =
    steps_failed _ c.from_residual.ensures.0 (entered_by systems_listed cartesian [] (cartesian ∷ []) refl refl
    c.insert_spatial_ref_sys.ensures.wrote c.insert_spatial_ref_sys.ensures.survives)

pub returns-in_err-insert_spatial_ref_sys-2-clause-steps : goal.returns-in_err-insert_spatial_ref_sys-2-clause-steps
returns-in_err-insert_spatial_ref_sys-2-clause-steps g c =
    let one = c.in_ok-insert_spatial_ref_sys.ensures in
    let two = c.insert_spatial_ref_sys-2.ensures in
    steps_failed _ c.from_residual-in_err-insert_spatial_ref_sys-2.ensures.0
    (made_then systems_listed [] (cartesian ∷ []) (cartesian ∷ geographic ∷ [])
    (entered_by systems_listed cartesian [] (cartesian ∷ []) refl refl one.wrote one.survives)
    (entered_by systems_listed geographic (cartesian ∷ []) (cartesian ∷ geographic ∷ []) refl refl two.wrote
    two.survives))
