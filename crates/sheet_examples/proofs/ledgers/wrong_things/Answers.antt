use Rattle.sheet_examples.proofs.ledgers.wrong_things.Goals as goal
use Rattle.sheet_examples.proofs.Soundness.{wrong_things}

pub returns : goal.returns
returns c = wrong_things
