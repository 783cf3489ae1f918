use Rattle.sheet_examples.proofs.opening.answers_missing_package.Goals as goal
use Rattle.sheet_examples.proofs.Stores.{missing_package}

pub returns : goal.returns
returns c = missing_package
