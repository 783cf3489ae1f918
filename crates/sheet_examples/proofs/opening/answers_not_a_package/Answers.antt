use Rattle.sheet_examples.proofs.opening.answers_not_a_package.Goals as goal
use Rattle.sheet_examples.proofs.Stores.{not_a_package}

pub returns : goal.returns
returns c = not_a_package
