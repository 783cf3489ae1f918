use Rattle.sheet_examples.proofs.ledgers.wrong_numbers.Goals as goal
use Rattle.sheet_examples.proofs.Soundness.{wrong_numbers}

pub returns : goal.returns
returns c = wrong_numbers
