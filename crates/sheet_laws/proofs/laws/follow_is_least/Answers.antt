use Rattle.sheet_laws.proofs.laws.follow_is_least.Goals as goal
use Rattle.sheet_laws.proofs.Follow.{follow_is_least}

pub returns : goal.returns
returns c = follow_is_least
