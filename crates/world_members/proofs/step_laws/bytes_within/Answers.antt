-- The lemma says it.
use Rattle.world_members.proofs.Counting.{bytes_within}
use Rattle.world_members.proofs.step_laws.bytes_within.Goals as goal

pub returns : goal.returns
returns c = bytes_within
