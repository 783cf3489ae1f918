use Rattle.opening_laws.proofs.laws.strays_are_told.Goals as goal
use Rattle.opening_laws.proofs.Apart.{strays_are_told}

pub returns : goal.returns
returns g c = strays_are_told g.S.Store
