use Rattle.sheet_kept_laws.proofs.laws.once_for_good.Goals as goal
use Rattle.sheet_kept_laws.proofs.Again.{once_for_good}

pub returns : goal.returns
returns c = once_for_good
