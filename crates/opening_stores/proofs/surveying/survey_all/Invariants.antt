use Rattle.opening_stores.proofs.LookedAt.{Surveyed}
use Rattle.opening_stores.proofs.surveying.survey_all.Given as goal

-- the first were looked at
abbrev pub invariant-loop-at : goal.invariant-loop-at
invariant-loop-at g l = record { surveyed : Surveyed g.S.Store l.fn.stores.items l.stores.items l.at l.all.items }
