use Rattle.opening_laws.proofs.laws.views_of_stores.Goals as goal
use Rattle.opening_laws.proofs.AllViews.{views_of_stores}

pub returns : goal.returns
returns g c = views_of_stores g.S.Store
