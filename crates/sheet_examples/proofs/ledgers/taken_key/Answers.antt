use Rattle.sheet_examples.proofs.ledgers.taken_key.Goals as goal
use Rattle.sheet_examples.proofs.Soundness.{taken_key}

pub returns : goal.returns
returns c = taken_key
