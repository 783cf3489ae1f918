use Rattle.opening_laws_model.proofs.laws.new_world_is_timely.Goals as goal
use Rattle.opening_laws_model.proofs.Timed.{new_world_is_timely}

pub returns : goal.returns
returns c = new_world_is_timely
