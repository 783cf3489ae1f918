use Rattle.opening_laws.proofs.laws.rest_is_opened.Goals as goal
use Rattle.opening_laws.proofs.Leavings.{rest_is_opened}

pub returns : goal.returns
returns g c = rest_is_opened g.S.Store
