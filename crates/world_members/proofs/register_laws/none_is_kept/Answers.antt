-- The lemma says it.
use Rattle.world_members.proofs.EachPackage.{none_is_kept}
use Rattle.world_members.proofs.register_laws.none_is_kept.Goals as goal

pub returns : goal.returns
returns c = none_is_kept
