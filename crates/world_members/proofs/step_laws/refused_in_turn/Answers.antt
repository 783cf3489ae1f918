-- The lemma says it.
use Rattle.world_members.proofs.Fitting.{refused_in_turn}
use Rattle.world_members.proofs.step_laws.refused_in_turn.Goals as goal

pub returns : goal.returns
returns c = refused_in_turn
