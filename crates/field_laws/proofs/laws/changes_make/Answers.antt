use Rattle.field_laws.proofs.Makes.{changes_make}
use Rattle.field_laws.proofs.laws.changes_make.Goals as goal

pub returns : goal.returns
returns c = changes_make
