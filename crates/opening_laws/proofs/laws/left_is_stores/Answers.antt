use Rattle.opening_laws.proofs.laws.left_is_stores.Goals as goal
use Rattle.opening_laws.proofs.Leavings.{left_is_stores}

pub returns : goal.returns
returns g c = left_is_stores g.S.Store
