use Rattle.opening_laws.proofs.laws.meets_no_fault.Goals as goal
use Rattle.opening_laws.proofs.Openings.{meets_no_fault}

pub returns : goal.returns
returns g c = meets_no_fault g.S.Store
