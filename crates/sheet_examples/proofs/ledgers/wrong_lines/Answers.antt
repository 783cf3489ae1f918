use Rattle.sheet_examples.proofs.ledgers.wrong_lines.Goals as goal
use Rattle.sheet_examples.proofs.Soundness.{wrong_lines}

pub returns : goal.returns
returns c = wrong_lines
