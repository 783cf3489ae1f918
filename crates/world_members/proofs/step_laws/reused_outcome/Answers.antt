-- The lemma says it.
use Rattle.world_members.proofs.Outcomes.{reused_outcome}
use Rattle.world_members.proofs.step_laws.reused_outcome.Goals as goal

pub returns : goal.returns
returns c = reused_outcome
