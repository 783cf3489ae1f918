use Rattle.field_laws.proofs.Stopped.{stopped_list_comes_again}
use Rattle.field_laws.proofs.laws.stopped_list_comes_again.Goals as goal

pub returns : goal.returns
returns c = stopped_list_comes_again
