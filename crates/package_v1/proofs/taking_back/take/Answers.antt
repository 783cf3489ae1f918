use Rattle.store_sql.proofs.Transactions.{steps_then, steps_failed}
use Rattle.package_v1.proofs.Reversing.{takes_steps}
use Rattle.package_v1.proofs.taking_back.take.Goals as goal

pub returns-clause-steps : goal.returns-clause-steps
returns-clause-steps g c = takes_steps c.in_ok-set_version.ensures.steps c.in_ok-delete_third_relation.ensures.steps
    c.drop_third_table.ensures.steps

pub returns-in_err-set_version-clause-steps : goal.returns-in_err-set_version-clause-steps
returns-in_err-set_version-clause-steps g c = steps_failed _ c.from_residual.ensures.0 c.set_version.ensures.steps

pub returns-in_err-delete_third_relation-clause-steps : goal.returns-in_err-delete_third_relation-clause-steps
returns-in_err-delete_third_relation-clause-steps g c = steps_failed _
    c.from_residual-in_err-delete_third_relation.ensures.0 (steps_then c.in_ok-set_version.ensures.steps
    c.delete_third_relation.ensures.steps)
