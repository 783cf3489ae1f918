use Rattle.sheet_kept_laws.proofs.laws.other_line_is_refused.Goals as goal
use Rattle.sheet_kept_laws.proofs.Again.{other_line_is_refused}

pub returns : goal.returns
returns c = other_line_is_refused
