use Rattle.opening_laws.proofs.laws.rest_is_stores.Goals as goal
use Rattle.opening_laws.proofs.Leavings.{rest_is_stores}

pub returns : goal.returns
returns g c = rest_is_stores g.S.Store
