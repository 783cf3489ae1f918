use Rattle.opening_glances.proofs.laws.left_out_stand.Goals as goal
use Rattle.opening_glances.proofs.Standing.{left_out_stand}

pub returns : goal.returns
returns c = left_out_stand
