-- The live package is asked; where there is none, nothing is told.
use Rattle.world_queries.proofs.Questions.{asks_still}
use Rattle.world_queries.proofs.recalling.lent_near.Goals as goal

pub returns-in-None : goal.returns-in-None
returns-in-None g c = asks_still g.S.Store g.met.S.Store.shut_if_dirty g.met.S.Store.settled c.requires
    (λ w count are. λ found. absurd (let e = found in cc))
