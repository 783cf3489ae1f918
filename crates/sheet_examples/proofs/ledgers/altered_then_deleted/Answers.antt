use Rattle.sheet_examples.proofs.ledgers.altered_then_deleted.Goals as goal
use Rattle.sheet_examples.proofs.Soundness.{altered_then_deleted}

pub returns : goal.returns
returns c = altered_then_deleted
