use Rattle.std.proofs.Common.{[], to_z-of_z}
use Rattle.store_sql.proofs.Transactions.{steps_failed}
use Rattle.package_tables.specs.Fixed.{standard_systems, systems_of}
use Rattle.package_tables.proofs.Written.{systems_listed}
use Rattle.package_tables.proofs.InTurn.{made_then}
use Rattle.package_creation.proofs.fixed_rows.insert_systems.Goals as goal

pub returns-clause-steps : goal.returns-clause-steps
returns-clause-steps g c = made_then systems_listed [] standard_systems (systems_of c.args.srs_id)
    c.in_ok-insert_standard_systems.ensures.steps (simp (to_z-of_z, c.ranges.srs_id) at
    c.insert_own_system.ensures.steps)

pub returns-in_err-insert_standard_systems-clause-steps : goal.returns-in_err-insert_standard_systems-clause-steps
returns-in_err-insert_standard_systems-clause-steps g c = steps_failed _ c.from_residual.ensures.0
    c.insert_standard_systems.ensures.steps
