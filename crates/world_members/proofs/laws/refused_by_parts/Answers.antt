-- The lemma says it.
use Rattle.world_members.proofs.Parts.{refused_by_parts}
use Rattle.world_members.proofs.laws.refused_by_parts.Goals as goal

pub returns : goal.returns
returns c = refused_by_parts
