use Rattle.sheet_laws.proofs.laws.unlink_keeps_register.Goals as goal
use Rattle.sheet_laws.proofs.OneRegister.{unlink_keeps_register}

pub returns : goal.returns
returns c = unlink_keeps_register
