use Rattle.sheet_laws.proofs.laws.run_keeps_register.Goals as goal
use Rattle.sheet_laws.proofs.Running.{run_keeps_register}

pub returns : goal.returns
returns c = run_keeps_register
