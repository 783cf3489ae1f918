use Rattle.sheet_laws.proofs.laws.merge_keeps_register.Goals as goal
use Rattle.sheet_laws.proofs.Merging.{merge_keeps_register}

pub returns : goal.returns
returns c = merge_keeps_register
