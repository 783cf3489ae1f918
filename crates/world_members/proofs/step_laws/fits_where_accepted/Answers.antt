-- The lemma says it.
use Rattle.world_members.proofs.Fitting.{fits_where_accepted}
use Rattle.world_members.proofs.step_laws.fits_where_accepted.Goals as goal

pub returns : goal.returns
returns c = fits_where_accepted
