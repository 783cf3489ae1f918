use Rattle.sheet_kept_laws.proofs.laws.step_keeps_kept.Goals as goal
use Rattle.sheet_kept_laws.proofs.Kept.{step_keeps_kept}

pub returns : goal.returns
returns c = step_keeps_kept
