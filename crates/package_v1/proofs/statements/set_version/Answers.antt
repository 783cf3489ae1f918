use Rattle.std.proofs.Common.{[], ◌∷◌, codes, to_z-of_z}
use Rattle.sqlite.specs.Held.{state}
use Rattle.sqlite.specs.declared.types.Value.TheVariants.{Int}
use Rattle.store_sql.proofs.Transactions.{write_steps}
use Rattle.store_sql.proofs.Writes.{writes_inside}
use Rattle.package_tables.proofs.Stepping.{settled_steps}
use Rattle.package_v1.specs.Migrating.{SetsVersion}
use Rattle.package_v1.proofs.Versions.{version_set}
use Rattle.package_v1.proofs.statements.set_version.Goals as goal

pub returns-clause-steps : goal.returns-clause-steps
returns-clause-steps g c =
    let old = state g.S.Store c.args.tx.now.conn.now in
    let new = state g.S.Store c.execute.new.self.conn.now in
    let version = c.args.version in
    settled_steps _ c.drop_count.ensures
    (write_steps (SetsVersion version) old new c.execute.result
    (λ clean begun. writes_inside (SetsVersion version) (codes "UPDATE sheet_package SET version = ?1")
    (Int version ∷ []) old new (version_set version old new) c.execute.result
    (simp (to_z-of_z, c.ranges.version) at (rw (c.params-to_sql.ensures) at (c.execute.ensures.runs clean begun))))
    c.execute.ensures.survives)
