use Rattle.sheet_laws.proofs.laws.line_is_read_back.Goals as goal
use Rattle.sheet_laws.proofs.Running.{line_is_read_back}

pub returns : goal.returns
returns c = line_is_read_back
