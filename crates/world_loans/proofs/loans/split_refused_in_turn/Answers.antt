-- The lemma says it.
use Rattle.world_loans.proofs.SplitReasons.{split_refused_in_turn}
use Rattle.world_loans.proofs.loans.split_refused_in_turn.Goals as goal

pub returns : goal.returns
returns c = split_refused_in_turn
