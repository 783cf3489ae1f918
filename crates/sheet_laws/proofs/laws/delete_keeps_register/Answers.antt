use Rattle.sheet_laws.proofs.laws.delete_keeps_register.Goals as goal
use Rattle.sheet_laws.proofs.OneRegister.{delete_keeps_register}

pub returns : goal.returns
returns c = delete_keeps_register
