-- The lemma says it.
use Rattle.world_members.proofs.EachPackage.{used_is_named}
use Rattle.world_members.proofs.register_laws.used_is_named.Goals as goal

pub returns : goal.returns
returns c = used_is_named
