-- Nothing was made of the world.
use Rattle.std.proofs.Common.{refl}
use Rattle.desk_http.proofs.ServedBy.{same_by}
use Rattle.program_serving.proofs.serving.attend_heard.Goals as goal

pub returns-in-Some-Err : goal.returns-in-Some-Err
returns-in-Some-Err g c = same_by g.S.Store c.args.world.now c.args.world.now refl

pub returns-in-None : goal.returns-in-None
returns-in-None g c = same_by g.S.Store c.args.world.now c.args.world.now refl
