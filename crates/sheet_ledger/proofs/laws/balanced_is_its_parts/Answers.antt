use Rattle.sheet_ledger.proofs.laws.balanced_is_its_parts.Goals as goal
use Rattle.sheet_ledger.proofs.Parts.{balanced_is_its_parts}

pub returns : goal.returns
returns c = balanced_is_its_parts
