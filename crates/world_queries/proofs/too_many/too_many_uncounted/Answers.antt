-- The lemma says it.
use Rattle.world_queries.proofs.Overfull.{too_many_uncounted}
use Rattle.world_queries.proofs.too_many.too_many_uncounted.Goals as goal

pub returns : goal.returns
returns c = too_many_uncounted
