use Rattle.opening_laws.proofs.laws.crash_is_opened.Goals as goal
use Rattle.opening_laws.proofs.Leavings.{crash_is_opened}

pub returns : goal.returns
returns g c = crash_is_opened g.S.Store
