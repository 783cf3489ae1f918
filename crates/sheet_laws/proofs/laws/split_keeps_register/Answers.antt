use Rattle.sheet_laws.proofs.laws.split_keeps_register.Goals as goal
use Rattle.sheet_laws.proofs.Splitting.{split_keeps_register}

pub returns : goal.returns
returns c = split_keeps_register
