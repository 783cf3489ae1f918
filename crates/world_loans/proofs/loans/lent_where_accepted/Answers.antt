-- The lemma says it.
use Rattle.world_loans.proofs.DueSplits.{lent_where_accepted}
use Rattle.world_loans.proofs.loans.lent_where_accepted.Goals as goal

pub returns : goal.returns
returns c = lent_where_accepted
