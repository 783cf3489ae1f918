-- The lemma says it.
use Rattle.world_queries.proofs.Overfull.{member_holds}
use Rattle.world_queries.proofs.too_many.member_holds.Goals as goal

pub returns : goal.returns
returns g c = member_holds g.S.Store
