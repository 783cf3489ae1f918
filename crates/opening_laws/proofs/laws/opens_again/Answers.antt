use Rattle.opening_laws.proofs.laws.opens_again.Goals as goal
use Rattle.opening_laws.proofs.Openings.{opens_again}

pub returns : goal.returns
returns g c = opens_again g.S.Store
