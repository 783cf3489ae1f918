use Rattle.sheet_examples.proofs.ledgers.sound_ledger.Goals as goal
use Rattle.sheet_examples.proofs.Soundness.{sound_ledger}

pub returns : goal.returns
returns c = sound_ledger
