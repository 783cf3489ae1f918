use Rattle.std.proofs.Common.{refl, to_z-of_z}
use Rattle.std.specs.Ordering.{int_eq}
use Rattle.sqlite.specs.Held.{state}
use Rattle.sqlite.specs.Order.{column}
use Rattle.sqlite.specs.declared.types.Value.TheVariants.{Int}
use Rattle.store_sql.specs.Reading.{is_same}
use Rattle.package_tables.proofs.Making.{leaves}
use Rattle.package_tables.proofs.AttributeStatements.{delete_text, delete_plan}
use Rattle.package_tables.proofs.Written.{attributes_listed}
use Rattle.package_tables.proofs.Values.{same_number}
use Rattle.package_tables.proofs.attributes.delete_attribute.Goals as goal

pub returns-clause-wrote : goal.returns-clause-wrote
returns-clause-wrote g c clean begun =
    let a = c.args in
    let old = state g.S.Store a.tx.now.conn.now in
    let new = state g.S.Store c.execute.new.self.conn.now in
    leaves attributes_listed (λ r. is_same (column r 0) (Int a.id)) (λ x. int_eq x.id a.id)
    (λ v x. (same_number x.id a.id)) delete_text delete_plan _ refl (λ spelling. refl) old new c.execute.result
    _ c.drop_count.ensures
    (simp (to_z-of_z, c.ranges.id) at (rw (c.params-to_sql.ensures) at (c.execute.ensures.runs clean begun)))
