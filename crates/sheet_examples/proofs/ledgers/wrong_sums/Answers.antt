use Rattle.sheet_examples.proofs.ledgers.wrong_sums.Goals as goal
use Rattle.sheet_examples.proofs.Soundness.{wrong_sums}

pub returns : goal.returns
returns c = wrong_sums
