-- The lemma of this name.
use Rattle.world_known.proofs.Remembering.{none_kept, none_used, none_lent}
use Rattle.world_known.proofs.laws.unknown_is_new.Goals as goal

pub returns : goal.returns
returns c = λ known w id knows new. (
  none_kept known w knows id new,
  none_used known w knows id new,
  none_lent known
      w knows id new,
)
