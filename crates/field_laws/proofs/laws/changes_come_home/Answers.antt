use Rattle.field_laws.proofs.Home.{changes_come_home}
use Rattle.field_laws.proofs.laws.changes_come_home.Goals as goal

pub returns : goal.returns
returns c = changes_come_home
