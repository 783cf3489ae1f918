-- The world was only read.
use Rattle.desk_http.proofs.ServedBy.{told_by}
use Rattle.program_serving.proofs.clerk_pages.attend_tidy.Goals as goal

pub returns : goal.returns
returns g c =
    told_by g.S.Store c.args.world.now c.tidy_beside-ending.new.world c.tidy_beside-ending.ensures.read
