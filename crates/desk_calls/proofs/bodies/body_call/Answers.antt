use Rattle.std.proofs.Common.{refl}
use Rattle.desk_calls.proofs.bodies.body_call.Goals as goal

pub returns-in-None : goal.returns-in-None
returns-in-None c = (refl, rw c.in-None.is at c.in_ok-request.ensures.none)
