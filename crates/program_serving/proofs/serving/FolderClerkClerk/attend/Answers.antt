-- Nothing was made of the world.
use Rattle.std.proofs.Common.{refl}
use Rattle.desk_http.proofs.ServedBy.{same_by}
use Rattle.program_serving.proofs.serving.FolderClerkClerk.attend.Goals as goal

pub returns-clause-served : goal.returns-clause-served
returns-clause-served g c = same_by g.S.Store c.args.world.now c.args.world.now refl
