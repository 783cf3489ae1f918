use Rattle.sheet_examples.proofs.opening.answers_altered.Goals as goal
use Rattle.sheet_examples.proofs.Stores.{altered_item}

pub returns : goal.returns
returns c = altered_item
