use Rattle.sheet_laws.proofs.laws.new_world_is_register.Goals as goal
use Rattle.sheet_laws.proofs.First.{new_world_is_register}

pub returns : goal.returns
returns c = new_world_is_register
