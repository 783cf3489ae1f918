use Rattle.std.proofs.Common.{refl, to_z-of_z}
use Rattle.std.specs.Prelude.{Bool, ◌&&◌}
use Rattle.std.specs.Ordering.{int_eq}
use Rattle.sqlite.specs.Held.{state}
use Rattle.sqlite.specs.Order.{Row, column}
use Rattle.sqlite.specs.declared.types.Value.TheVariants.{Int}
use Rattle.store_sql.specs.Reading.{is_same}
use Rattle.package_tables.proofs.Making.{leaves}
use Rattle.package_tables.proofs.Written.{pairs_listed}
use Rattle.package_tables.proofs.Pairs.{deletes, deletes_planned, deletes_rows}
use Rattle.package_tables.proofs.Values.{same_number, both_same}
use Rattle.package_tables.proofs.mappings.delete_pair.Goals as goal

pub returns-clause-wrote : goal.returns-clause-wrote
returns-clause-wrote g c clean begun =
    let a = c.args in
    let m = a.mapping in
    let old = state g.S.Store a.tx.now.conn.now in
    let new = state g.S.Store c.execute.new.self.conn.now in
    let goes : Row → Bool = λ r. is_same (column r 1) (Int a.base_id) && is_same (column r 2) (Int a.related_id) in
    leaves (pairs_listed m) goes (λ x. int_eq x.base_id a.base_id && int_eq x.related_id a.related_id)
    (λ v x. both_same (same_number x.base_id a.base_id) (same_number x.related_id a.related_id)) (deletes m)
    (deletes_planned m) _ refl (deletes_rows m a.base_id a.related_id) old new c.execute.result _
    c.drop_count.ensures
    (simp (to_z-of_z, c.ranges.base_id, c.ranges.related_id) at
    (rw (c.params-to_sql.ensures, c.params-to_sql-2.ensures, c.delete_text.ensures) at
    (c.execute.ensures.runs clean begun)))
