use Rattle.sheet_kept_laws.proofs.laws.accepted_is_kept.Goals as goal
use Rattle.sheet_kept_laws.proofs.Kept.{accepted_is_kept}

pub returns : goal.returns
returns c = accepted_is_kept
