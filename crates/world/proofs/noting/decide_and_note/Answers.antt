-- What was decided, whatever is noted.
use Rattle.world_queries.proofs.Questions.{asks_answer, asks_failed}
use Rattle.world.proofs.noting.decide_and_note.Goals as goal

pub returns-in_err-decision-clause-asks : goal.returns-in_err-decision-clause-asks
returns-in_err-decision-clause-asks g c = asks_failed g.S.Store _ c.from_residual.ensures.0 c.decide.ensures.asks

pub returns-in_err-note_due-clause-asks : goal.returns-in_err-note_due-clause-asks
returns-in_err-note_due-clause-asks g c = asks_failed g.S.Store _ c.from_residual-in_err-note_due.ensures.0
    c.decide.ensures.asks

pub returns-clause-asks : goal.returns-clause-asks
returns-clause-asks g c = asks_answer g.S.Store {x = c.in_ok-decision.decision} c.in_ok-decision.was
    (λ w count are told. told) c.decide.ensures.asks
