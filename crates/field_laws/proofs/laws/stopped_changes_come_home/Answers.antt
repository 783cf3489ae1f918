use Rattle.field_laws.proofs.Stopped.{stopped_changes_come_home}
use Rattle.field_laws.proofs.laws.stopped_changes_come_home.Goals as goal

pub returns : goal.returns
returns c = stopped_changes_come_home
