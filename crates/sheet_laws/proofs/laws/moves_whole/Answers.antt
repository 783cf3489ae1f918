use Rattle.sheet_laws.proofs.laws.moves_whole.Goals as goal
use Rattle.sheet_laws.proofs.Whole.{moves_whole}

pub returns : goal.returns
returns c = moves_whole
