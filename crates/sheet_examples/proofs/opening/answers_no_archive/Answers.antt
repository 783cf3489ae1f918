use Rattle.sheet_examples.proofs.opening.answers_no_archive.Goals as goal
use Rattle.sheet_examples.proofs.Stores.{no_archive}

pub returns : goal.returns
returns c = no_archive
