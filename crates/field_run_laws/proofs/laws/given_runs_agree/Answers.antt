use Rattle.field_run_laws.proofs.Agreeing.{given_runs_agree}
use Rattle.field_run_laws.proofs.laws.given_runs_agree.Goals as goal

pub returns : goal.returns
returns c = given_runs_agree
