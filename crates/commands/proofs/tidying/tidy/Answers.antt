-- What the yard of a folder keeps no clause says; what is told is bound by the register of its world.
use Rattle.commands.proofs.TakenOut.{tidies_folder}
use Rattle.commands.proofs.tidying.tidy.Goals as goal

pub returns : goal.returns
returns g c = tidies_folder _ _ _ _ _ _ _ _ _ _ _ c.tidy_at.ensures
