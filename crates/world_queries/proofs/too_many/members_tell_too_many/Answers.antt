-- The lemma says it.
use Rattle.world_queries.proofs.Overfull.{members_tell_too_many}
use Rattle.world_queries.proofs.too_many.members_tell_too_many.Goals as goal

pub returns : goal.returns
returns g c = members_tell_too_many g.S.Store
