-- The lemma of this name.
use Rattle.world_known.proofs.Remembering.{knows_next}
use Rattle.world_known.proofs.laws.knows_next.Goals as goal

pub returns : goal.returns
returns c = knows_next
