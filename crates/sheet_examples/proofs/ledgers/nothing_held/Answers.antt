use Rattle.sheet_examples.proofs.ledgers.nothing_held.Goals as goal
use Rattle.sheet_examples.proofs.Soundness.{nothing_held}

pub returns : goal.returns
returns c = nothing_held
