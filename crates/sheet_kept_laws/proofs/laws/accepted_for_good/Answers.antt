use Rattle.sheet_kept_laws.proofs.laws.accepted_for_good.Goals as goal
use Rattle.sheet_kept_laws.proofs.Again.{accepted_for_good}

pub returns : goal.returns
returns c = accepted_for_good
