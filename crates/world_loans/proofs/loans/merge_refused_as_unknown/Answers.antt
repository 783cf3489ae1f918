-- The lemma says it.
use Rattle.world_loans.proofs.MergeReasons.{merge_refused_as_unknown}
use Rattle.world_loans.proofs.loans.merge_refused_as_unknown.Goals as goal

pub returns : goal.returns
returns c = merge_refused_as_unknown
