use Rattle.sheet_examples.proofs.ledgers.added_twice.Goals as goal
use Rattle.sheet_examples.proofs.Soundness.{added_twice}

pub returns : goal.returns
returns c = added_twice
