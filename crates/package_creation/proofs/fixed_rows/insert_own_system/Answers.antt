use Rattle.std.proofs.Common.{◌∙◌, to_z-of_z, sym}
use Rattle.sqlite.specs.Held.{state}
use Rattle.package_tables.specs.Fixed.{own_system, standard_systems, systems_of}
use Rattle.package_tables.proofs.Written.{systems_listed}
use Rattle.package_tables.proofs.InTurn.{entered_by, made_none}
use Rattle.package_tables.proofs.FixedRows.{own_free, own_comes, standard_suffices}
use Rattle.package_creation.proofs.fixed_rows.insert_own_system.Goals as goal

pub returns-then-is_standard-clause-steps : goal.returns-then-is_standard-clause-steps
returns-then-is_standard-clause-steps g c =
    let n = c.args.srs_id in
    made_none systems_listed standard_systems (systems_of n) (state g.S.Store c.args.tx.now.conn.now)
    (sym (standard_suffices n (simp (to_z-of_z, c.ranges.srs_id) at
    (sym c.is_standard.ensures ∙ c.if-is_standard.true))))

pub returns-clause-steps : goal.returns-clause-steps
returns-clause-steps g c =
    let n = c.args.srs_id in
    let other = simp (to_z-of_z, c.ranges.srs_id) at (sym c.is_standard.ensures ∙ c.if-is_standard.false) in
    entered_by systems_listed (own_system n) standard_systems (systems_of n) (own_free n other) (own_comes n other)
    (simp (to_z-of_z, c.ranges.srs_id) at (rw (c.as_str.ensures.value, c.in_ok-name.ensures.ok) at
    c.insert_spatial_ref_sys.ensures.wrote)) c.insert_spatial_ref_sys.ensures.survives
