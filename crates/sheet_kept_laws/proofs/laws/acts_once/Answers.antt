use Rattle.sheet_kept_laws.proofs.laws.acts_once.Goals as goal
use Rattle.sheet_kept_laws.proofs.Again.{acts_once}

pub returns : goal.returns
returns c = acts_once
