use Rattle.opening_laws.proofs.laws.rest_survives.Goals as goal
use Rattle.opening_laws.proofs.Surviving.{rest_survives}

pub returns : goal.returns
returns g c = rest_survives g.S.Store g.met.S.Store.settled
