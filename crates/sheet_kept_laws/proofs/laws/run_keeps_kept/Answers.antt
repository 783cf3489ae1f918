use Rattle.sheet_kept_laws.proofs.laws.run_keeps_kept.Goals as goal
use Rattle.sheet_kept_laws.proofs.Kept.{run_keeps_kept}

pub returns : goal.returns
returns c = run_keeps_kept
