use Rattle.sheet_kept_laws.proofs.laws.doubled_loses_receipt.Goals as goal
use Rattle.sheet_kept_laws.proofs.Doubled.{doubled_loses_receipt}

pub returns : goal.returns
returns c = doubled_loses_receipt
