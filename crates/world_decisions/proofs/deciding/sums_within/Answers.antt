-- What cannot be counted is not within.
use Rattle.world_decisions.proofs.deciding.sums_within.Goals as goal

pub returns-in_default : goal.returns-in_default
returns-in_default g c = λ both. c.in_default.ensures both.0
