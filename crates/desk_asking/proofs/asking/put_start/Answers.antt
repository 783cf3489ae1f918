-- One part behind the other.
use Rattle.desk_asking.proofs.Texts.{two_put}
use Rattle.desk_asking.proofs.asking.put_start.Goals as goal

pub returns : goal.returns
returns c = two_put _ _ _ _ _ c.in_ok-extend_from_slice.ensures.items c.in_ok-put_number.ensures
