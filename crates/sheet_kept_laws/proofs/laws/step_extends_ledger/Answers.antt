use Rattle.sheet_kept_laws.proofs.laws.step_extends_ledger.Goals as goal
use Rattle.sheet_kept_laws.proofs.Growing.{step_extends_ledger}

pub returns : goal.returns
returns c = step_extends_ledger
