-- The lemma says it.
use Rattle.world_loans.proofs.DueMerges.{returned_where_accepted}
use Rattle.world_loans.proofs.loans.returned_where_accepted.Goals as goal

pub returns : goal.returns
returns c = returned_where_accepted
