use Rattle.sheet_laws.proofs.laws.step_keeps_register.Goals as goal
use Rattle.sheet_laws.proofs.Running.{step_keeps_register}

pub returns : goal.returns
returns c = step_keeps_register
