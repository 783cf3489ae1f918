-- A read of a store at rest is a question.
use Rattle.identity_register.proofs.Reaching.{asks_of}
use Rattle.identity_register.proofs.reach.ConnectionReach.links_of.Goals as goal

pub returns : goal.returns
returns g c =
    asks_of g.S.Store c.links_of.result c.links_of.ensures
