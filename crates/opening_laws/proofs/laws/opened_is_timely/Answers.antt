use Rattle.opening_laws.proofs.laws.opened_is_timely.Goals as goal
use Rattle.opening_laws.proofs.OpenedTimely.{opened_is_timely}

pub returns : goal.returns
returns g c = opened_is_timely g.S.Store
