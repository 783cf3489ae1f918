use Rattle.sheet_ledger.proofs.laws.sound_is_its_parts.Goals as goal
use Rattle.sheet_ledger.proofs.Parts.{sound_is_its_parts}

pub returns : goal.returns
returns c = sound_is_its_parts
