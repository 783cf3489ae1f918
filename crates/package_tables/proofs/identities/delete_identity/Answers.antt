use Rattle.std.proofs.Common.{refl, to_z-of_z}
use Rattle.std.specs.Prelude.{◌&&◌}
use Rattle.std.specs.Ordering.{int_eq}
use Rattle.sqlite.specs.Held.{state}
use Rattle.sqlite.specs.Order.{column}
use Rattle.sqlite.specs.declared.types.Value.TheVariants.{Int}
use Rattle.store_sql.specs.Reading.{is_same}
use Rattle.package_tables.proofs.Making.{leaves}
use Rattle.package_tables.proofs.IdentityStatements.{delete_text, delete_plan}
use Rattle.package_tables.proofs.Written.{identities_listed}
use Rattle.package_tables.proofs.Values.{same_number, both_same}
use Rattle.package_tables.proofs.identities.delete_identity.Goals as goal

pub returns-clause-wrote : goal.returns-clause-wrote
returns-clause-wrote g c clean begun =
    let a = c.args in
    let old = state g.S.Store a.tx.now.conn.now in
    let new = state g.S.Store c.execute.new.self.conn.now in
    leaves identities_listed (λ r. is_same (column r 1) (Int a.kind) && is_same (column r 2) (Int a.local_id))
    (λ x. int_eq x.kind a.kind && int_eq x.local_id a.local_id)
    (λ v x. (both_same (same_number x.kind a.kind) (same_number x.local_id a.local_id))) delete_text delete_plan
    _ refl (λ spelling. refl) old new c.execute.result _ c.drop_count.ensures
    (simp (to_z-of_z, c.ranges.kind, c.ranges.local_id) at (rw (c.params-to_sql.ensures, c.params-to_sql-2.ensures) at
    (c.execute.ensures.runs clean begun)))
