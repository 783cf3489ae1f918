use Rattle.opening_laws.proofs.laws.one_register_of_stores.Goals as goal
use Rattle.opening_laws.proofs.AllViews.{one_register}

pub returns : goal.returns
returns g c = one_register g.S.Store
