-- The lemma says it.
use Rattle.world_members.proofs.Due.{due_where_accepted}
use Rattle.world_changes.proofs.turning.due_where_accepted.Goals as goal

pub returns : goal.returns
returns c = due_where_accepted
