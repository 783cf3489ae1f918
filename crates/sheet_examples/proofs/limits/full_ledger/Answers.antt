use Rattle.sheet_examples.proofs.limits.full_ledger.Goals as goal
use Rattle.sheet_examples.proofs.Full.{full_ledger}

pub returns : goal.returns
returns c = full_ledger
