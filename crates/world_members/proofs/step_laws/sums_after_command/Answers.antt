-- The lemma says it.
use Rattle.world_members.proofs.Counting.{sums_after_command}
use Rattle.world_members.proofs.step_laws.sums_after_command.Goals as goal

pub returns : goal.returns
returns c = sums_after_command
