-- One part behind the other.
use Rattle.desk_asking.proofs.Texts.{three_put}
use Rattle.desk_asking.proofs.asking.put_size.Goals as goal

pub returns : goal.returns
returns c = three_put _ _ _ _ _ _ _ c.in_ok-extend_from_slice.ensures.items c.in_ok-put_number.ensures
    c.in_ok-extend_from_slice-2.ensures.items
