use Rattle.sqlite_trees.proofs.Doubt.{no_doubt}
use Rattle.std.proofs.Common.{true, refl}
use Rattle.opening_v1.proofs.Sighted.{always, seen_of_copy}
use Rattle.opening_v1.proofs.survey.survey_copy.Goals as goal

pub returns-clause-seen : goal.returns-clause-seen
returns-clause-seen c = seen_of_copy c.args.frame.now c.args.head c.args.rows.now _ _ c.survey.result c.survey.ensures
    (no_doubt true refl) c.in_ok-package.ensures.copied

pub returns-clause-order : goal.returns-clause-order
returns-clause-order c = always c.survey.result (c.is_in_order.ensures c.if-not-is_in_order.false)
