use Rattle.sheet_examples.proofs.ledgers.no_register.Goals as goal
use Rattle.sheet_examples.proofs.Soundness.{no_register}

pub returns : goal.returns
returns c = no_register
