use Rattle.sheet_examples.proofs.opening.answers_two_archives.Goals as goal
use Rattle.sheet_examples.proofs.Stores.{two_archives}

pub returns : goal.returns
returns c = two_archives
