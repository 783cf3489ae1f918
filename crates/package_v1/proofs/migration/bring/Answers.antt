use Rattle.store_sql.proofs.Transactions.{steps_then, steps_failed}
use Rattle.package_v1.proofs.Bringing.{brings_steps}
use Rattle.package_v1.proofs.migration.bring.Goals as goal

pub returns-clause-steps : goal.returns-clause-steps
returns-clause-steps g c = brings_steps c.in_ok-make_third_table.ensures.steps c.in_ok-make_third_index.ensures.steps
    c.in_ok-insert_third_relation.ensures.steps c.set_version.ensures.steps

pub returns-in_err-make_third_table-clause-steps : goal.returns-in_err-make_third_table-clause-steps
returns-in_err-make_third_table-clause-steps g c = steps_failed _ c.from_residual.ensures.0
    c.make_third_table.ensures.steps

pub returns-in_err-make_third_index-clause-steps : goal.returns-in_err-make_third_index-clause-steps
returns-in_err-make_third_index-clause-steps g c = steps_failed _ c.from_residual-in_err-make_third_index.ensures.0
    (steps_then c.in_ok-make_third_table.ensures.steps c.make_third_index.ensures.steps)

pub returns-in_err-insert_third_relation-clause-steps : goal.returns-in_err-insert_third_relation-clause-steps
returns-in_err-insert_third_relation-clause-steps g c =
    steps_failed _ c.from_residual-in_err-insert_third_relation.ensures.0
    (steps_then c.in_ok-make_third_table.ensures.steps (steps_then c.in_ok-make_third_index.ensures.steps
    c.insert_third_relation.ensures.steps))
