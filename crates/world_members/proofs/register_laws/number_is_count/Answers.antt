-- The lemma says it.
use Rattle.world_members.proofs.EachPackage.{number_is_count}
use Rattle.world_members.proofs.register_laws.number_is_count.Goals as goal

pub returns : goal.returns
returns c = number_is_count
