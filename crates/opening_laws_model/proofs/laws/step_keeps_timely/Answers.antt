use Rattle.opening_laws_model.proofs.laws.step_keeps_timely.Goals as goal
use Rattle.opening_laws_model.proofs.Timed.{step_keeps_timely}

pub returns : goal.returns
returns c = step_keeps_timely
