-- Where there is no clock, nothing has changed.
use Rattle.std.proofs.Common.{refl}
use Rattle.desk_http.proofs.ServedBy.{same_by}
use Rattle.desk_http.proofs.connections.serve_stream.Goals as goal

pub returns-in_default : goal.returns-in_default
returns-in_default g c = same_by g.S.Store c.args.world.now c.args.world.now refl
