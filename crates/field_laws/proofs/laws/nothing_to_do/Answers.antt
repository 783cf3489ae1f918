use Rattle.field_laws.proofs.Nothing.{nothing_to_do}
use Rattle.field_laws.proofs.laws.nothing_to_do.Goals as goal

pub returns : goal.returns
returns c = nothing_to_do
