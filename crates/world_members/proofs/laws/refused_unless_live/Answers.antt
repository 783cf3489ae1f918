-- The lemma says it.
use Rattle.world_members.proofs.Parts.{refused_unless_live}
use Rattle.world_members.proofs.laws.refused_unless_live.Goals as goal

pub returns : goal.returns
returns c = refused_unless_live
