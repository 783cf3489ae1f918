use Rattle.std.proofs.Common.{pos, refl}
use Rattle.std.specs.Ordering.{int_eq}
use Rattle.sqlite.specs.Held.{state}
use Rattle.sqlite.specs.Order.{column}
use Rattle.sqlite.specs.declared.types.Value.TheVariants.{Int}
use Rattle.store_sql.specs.Reading.{is_same}
use Rattle.package_tables.proofs.Making.{leaves}
use Rattle.package_tables.proofs.Stepping.{makes_steps}
use Rattle.package_tables.proofs.Written.{relations_listed}
use Rattle.package_tables.proofs.Values.{same_number}
use Rattle.package_v1.specs.TakingBack.{DropsThirdRelation}
use Rattle.package_v1.proofs.Reversing.{delete_text, delete_plan}
use Rattle.package_v1.proofs.statements.delete_third_relation.Goals as goal

pub returns-clause-steps : goal.returns-clause-steps
returns-clause-steps g c =
    let old = state g.S.Store c.args.tx.now.conn.now in
    let new = state g.S.Store c.execute.new.self.conn.now in
    makes_steps DropsThirdRelation
    (λ clean begun. leaves relations_listed (λ r. is_same (column r 0) (Int (pos 3))) (λ x. int_eq x.id (pos 3))
    (λ v x. same_number x.id (pos 3)) delete_text delete_plan _ refl (λ spelling. refl) old new c.execute.result _
    c.drop_count.ensures
    (rw (c.params-to_sql.ensures) at (c.execute.ensures.runs clean begun)))
    c.execute.ensures.survives
