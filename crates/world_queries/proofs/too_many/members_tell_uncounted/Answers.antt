-- The lemma says it.
use Rattle.world_queries.proofs.Overfull.{members_tell_uncounted}
use Rattle.world_queries.proofs.too_many.members_tell_uncounted.Goals as goal

pub returns : goal.returns
returns g c = members_tell_uncounted g.S.Store
