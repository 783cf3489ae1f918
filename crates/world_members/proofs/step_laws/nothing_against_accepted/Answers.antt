-- The lemma says it.
use Rattle.world_members.proofs.Fitting.{nothing_against_accepted}
use Rattle.world_members.proofs.step_laws.nothing_against_accepted.Goals as goal

pub returns : goal.returns
returns c = nothing_against_accepted
