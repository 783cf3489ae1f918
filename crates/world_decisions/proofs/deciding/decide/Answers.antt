-- All members are asked whether it came before, and where it did not, what is new is decided.
use Rattle.std.proofs.Common.{◌∙◌, subst, sym, ap, Ok, Some, None}
use Rattle.world_decisions.specs.Deciding.{Decides}
use Rattle.world_decisions.specs.declared.deciding.Decision.TheVariants.{Answered}
use Rattle.world_decisions.proofs.Decided.{decides_repeated}
use Rattle.world_queries.proofs.Questions.{asks_weaker, asks_answer, asks_then}
use Rattle.world_decisions.proofs.deciding.decide.Goals as goal

pub returns-in-Some-clause-asks : goal.returns-in-Some-clause-asks
returns-in-Some-clause-asks g c =
    asks_answer g.S.Store {x = Some c.in-Some.receipt} (c.in_ok-receipt.was ∙ ap Ok c.in-Some.is)
    (λ w count are told knows asked. subst (λ reply. Decides w c.args.request.now (Answered reply))
    (sym c.in_ok-reply.ensures) (decides_repeated w c.args.request.now c.in-Some.receipt (sym (told knows))))
    c.find_kept.ensures

pub returns-clause-asks : goal.returns-clause-asks
returns-clause-asks g c =
    asks_weaker g.S.Store _ (λ decision w count are told knows asked. told.1 knows
    (record { of_world = asked; new = sym (told.0 knows) }))
    (asks_then g.S.Store {x = None} _ (c.in_ok-receipt.was ∙ ap Ok c.in_default.is) c.find_kept.ensures
    c.decide_new.ensures.asks)
