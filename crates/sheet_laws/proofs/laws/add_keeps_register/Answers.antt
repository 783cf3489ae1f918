use Rattle.sheet_laws.proofs.laws.add_keeps_register.Goals as goal
use Rattle.sheet_laws.proofs.AddRegister.{add_keeps_register}

pub returns : goal.returns
returns c = add_keeps_register
