-- The lemma says it.
use Rattle.world_members.proofs.Outcomes.{accepted_outcome}
use Rattle.world_members.proofs.step_laws.accepted_outcome.Goals as goal

pub returns : goal.returns
returns c = accepted_outcome
