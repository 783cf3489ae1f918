use Rattle.sheet_laws.proofs.laws.run_of_both.Goals as goal
use Rattle.sheet_laws.proofs.Running.{run_of_both}

pub returns : goal.returns
returns c = run_of_both
