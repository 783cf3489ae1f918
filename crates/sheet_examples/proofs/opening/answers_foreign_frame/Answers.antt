use Rattle.sheet_examples.proofs.opening.answers_foreign_frame.Goals as goal
use Rattle.sheet_examples.proofs.Stores.{foreign_frame}

pub returns : goal.returns
returns c = foreign_frame
