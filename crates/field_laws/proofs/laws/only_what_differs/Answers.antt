use Rattle.field_laws.proofs.Least.{only_what_differs}
use Rattle.field_laws.proofs.laws.only_what_differs.Goals as goal

pub returns : goal.returns
returns c = only_what_differs
