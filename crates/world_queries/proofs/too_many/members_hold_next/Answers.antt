-- The lemma says it.
use Rattle.world_queries.proofs.Overfull.{members_hold_next}
use Rattle.world_queries.proofs.too_many.members_hold_next.Goals as goal

pub returns : goal.returns
returns g c = members_hold_next g.S.Store
