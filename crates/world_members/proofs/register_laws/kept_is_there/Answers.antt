-- The lemma says it.
use Rattle.world_members.proofs.EachPackage.{kept_is_there}
use Rattle.world_members.proofs.register_laws.kept_is_there.Goals as goal

pub returns : goal.returns
returns c = kept_is_there
