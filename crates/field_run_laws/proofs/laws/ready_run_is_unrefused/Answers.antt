use Rattle.field_run_laws.proofs.Ready.{ready_run_is_unrefused}
use Rattle.field_run_laws.proofs.laws.ready_run_is_unrefused.Goals as goal

pub returns : goal.returns
returns c = ready_run_is_unrefused
