use Rattle.sheet_examples.proofs.opening.answers_two_copies.Goals as goal
use Rattle.sheet_examples.proofs.Stores.{two_copies}

pub returns : goal.returns
returns c = two_copies
