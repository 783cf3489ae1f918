-- The lemma says it.
use Rattle.world_members.proofs.Outcomes.{kept_outcome}
use Rattle.world_members.proofs.step_laws.kept_outcome.Goals as goal

pub returns : goal.returns
returns c = kept_outcome
