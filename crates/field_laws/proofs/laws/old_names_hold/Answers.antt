use Rattle.field_laws.proofs.Names.{old_names}
use Rattle.field_laws.proofs.laws.old_names_hold.Goals as goal

pub returns : goal.returns
returns c = old_names
