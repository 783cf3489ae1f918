-- The lemma says it.
use Rattle.world_members.proofs.Fitting.{refused_as_unknown}
use Rattle.world_members.proofs.step_laws.refused_as_unknown.Goals as goal

pub returns : goal.returns
returns c = refused_as_unknown
