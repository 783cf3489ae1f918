-- The lemma says it.
use Rattle.world_members.proofs.Outcomes.{refused_outcome}
use Rattle.world_members.proofs.step_laws.refused_outcome.Goals as goal

pub returns : goal.returns
returns c = refused_outcome
