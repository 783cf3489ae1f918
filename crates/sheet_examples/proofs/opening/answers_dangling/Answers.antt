use Rattle.sheet_examples.proofs.opening.answers_dangling.Goals as goal
use Rattle.sheet_examples.proofs.Stores.{dangling}

pub returns : goal.returns
returns c = dangling
