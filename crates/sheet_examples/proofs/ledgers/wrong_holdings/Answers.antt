use Rattle.sheet_examples.proofs.ledgers.wrong_holdings.Goals as goal
use Rattle.sheet_examples.proofs.Soundness.{wrong_holdings}

pub returns : goal.returns
returns c = wrong_holdings
