-- The lemma says it.
use Rattle.world_members.proofs.Carrying.{carried_out_in_one}
use Rattle.world_members.proofs.laws.carried_out_in_one.Goals as goal

pub returns : goal.returns
returns c = carried_out_in_one
