-- The lemma says it.
use Rattle.world_loans.proofs.SplitReasons.{split_refused_as_unknown}
use Rattle.world_loans.proofs.loans.split_refused_as_unknown.Goals as goal

pub returns : goal.returns
returns c = split_refused_as_unknown
