use Rattle.sheet_laws.proofs.laws.repeat_changes_nothing.Goals as goal
use Rattle.sheet_laws.proofs.Running.{repeat_changes_nothing}

pub returns : goal.returns
returns c = repeat_changes_nothing
