-- The lemma says it.
use Rattle.world_members.proofs.Limits.{too_many_by_sums}
use Rattle.world_members.proofs.step_laws.too_many_by_sums.Goals as goal

pub returns : goal.returns
returns c = too_many_by_sums
