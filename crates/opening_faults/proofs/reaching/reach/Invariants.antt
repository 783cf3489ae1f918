use Rattle.opening_faults.specs.Turns.{IsTurn}
use Rattle.opening_faults.proofs.reaching.reach.Given as goal

-- what is known before the round
abbrev pub invariant-loop-round : goal.invariant-loop-round
invariant-loop-round l = IsTurn l.sights l.round l.standings.items l.merges l.splits.items
