use Rattle.sheet_kept_laws.proofs.laws.stopped_acts_once.Goals as goal
use Rattle.sheet_kept_laws.proofs.Stopped.{stopped_acts_once}

pub returns : goal.returns
returns c = stopped_acts_once
