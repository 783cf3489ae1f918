use Rattle.sheet_kept_laws.proofs.laws.run_extends_ledger.Goals as goal
use Rattle.sheet_kept_laws.proofs.Growing.{run_extends_ledger}

pub returns : goal.returns
returns c = run_extends_ledger
