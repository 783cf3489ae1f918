use Rattle.field_laws.proofs.Unrefused.{nothing_is_refused}
use Rattle.field_laws.proofs.laws.nothing_is_refused.Goals as goal

pub returns : goal.returns
returns c = nothing_is_refused
