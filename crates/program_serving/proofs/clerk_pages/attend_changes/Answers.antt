-- Nothing was made of the world.
use Rattle.std.proofs.Common.{refl}
use Rattle.desk_http.proofs.ServedBy.{same_by}
use Rattle.program_serving.proofs.clerk_pages.attend_changes.Goals as goal

pub returns-in-Err : goal.returns-in-Err
returns-in-Err g c = same_by g.S.Store c.args.world.now c.args.world.now refl
