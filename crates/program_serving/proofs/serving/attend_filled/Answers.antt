-- Nothing was made of the world.
use Rattle.std.proofs.Common.{refl}
use Rattle.desk_http.proofs.ServedBy.{same_by}
use Rattle.program_serving.proofs.serving.attend_filled.Goals as goal

pub returns-in_default : goal.returns-in_default
returns-in_default g c = same_by g.S.Store c.args.world.now c.args.world.now refl

pub returns-in_default-subcommand : goal.returns-in_default-subcommand
returns-in_default-subcommand g c = same_by g.S.Store c.args.world.now c.args.world.now refl
