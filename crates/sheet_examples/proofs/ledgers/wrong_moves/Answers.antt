use Rattle.sheet_examples.proofs.ledgers.wrong_moves.Goals as goal
use Rattle.sheet_examples.proofs.Soundness.{wrong_moves}

pub returns : goal.returns
returns c = wrong_moves
