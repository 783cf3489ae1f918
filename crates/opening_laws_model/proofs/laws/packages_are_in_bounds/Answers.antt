use Rattle.opening_laws_model.proofs.laws.packages_are_in_bounds.Goals as goal
use Rattle.opening_laws_model.proofs.Bounds.{packages_are_in_bounds}

pub returns : goal.returns
returns c = packages_are_in_bounds
