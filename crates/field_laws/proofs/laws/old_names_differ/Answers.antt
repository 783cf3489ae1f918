use Rattle.field_laws.proofs.Naming.{old_names_differ}
use Rattle.field_laws.proofs.laws.old_names_differ.Goals as goal

pub returns : goal.returns
returns c = old_names_differ
