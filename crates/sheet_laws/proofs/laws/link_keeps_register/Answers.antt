use Rattle.sheet_laws.proofs.laws.link_keeps_register.Goals as goal
use Rattle.sheet_laws.proofs.OneRegister.{link_keeps_register}

pub returns : goal.returns
returns c = link_keeps_register
