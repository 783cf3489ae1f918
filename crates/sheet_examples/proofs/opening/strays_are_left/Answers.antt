use Rattle.sheet_examples.proofs.opening.strays_are_left.Goals as goal
use Rattle.sheet_examples.proofs.Stores.{strays_are_left}

pub returns : goal.returns
returns c = strays_are_left
