use Rattle.field_laws.proofs.Makes.{more_adds}
use Rattle.field_laws.proofs.laws.more_adds.Goals as goal

pub returns : goal.returns
returns c = more_adds
