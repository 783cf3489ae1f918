-- It is asked whether the UUID was used, and else the values tell.
use Rattle.std.proofs.Common.{◌∙◌, ap, Ok, true, false}
use Rattle.world_queries.proofs.Questions.{asks_answer}
use Rattle.world_decisions.proofs.SplitAsked.{before_by_uuid, before_by_values}
use Rattle.world_decisions.proofs.deciding_splits.refused_before_cut.Goals as goal

pub returns-then-branch-clause-asks : goal.returns-then-branch-clause-asks
returns-then-branch-clause-asks g c =
    asks_answer g.S.Store {x = true} (c.in_ok-is_used.was ∙ ap Ok c.if-branch.true)
    (λ w count are used knows is. before_by_uuid w c.args.frame.now c.args.request.now c.args.asked.now c.args.depth
    is.asked (used knows)) c.is_used.ensures

pub returns-clause-asks : goal.returns-clause-asks
returns-clause-asks g c =
    asks_answer g.S.Store {x = false} (c.in_ok-is_used.was ∙ ap Ok c.if-branch.false)
    (λ w count are unused knows is. before_by_values w c.args.frame.now c.args.request.now c.args.asked.now
    c.args.depth is.asked c.refused_by_values.result is.frame is.deep (unused knows)
    c.refused_by_values.ensures.why) c.is_used.ensures
