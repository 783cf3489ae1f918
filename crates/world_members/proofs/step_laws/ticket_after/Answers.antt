-- The lemma says it.
use Rattle.world_members.proofs.Limits.{ticket_after}
use Rattle.world_members.proofs.step_laws.ticket_after.Goals as goal

pub returns : goal.returns
returns c = ticket_after
