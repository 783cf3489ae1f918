-- One part behind the other.
use Rattle.desk_asking.proofs.Texts.{three_put}
use Rattle.desk_asking.proofs.asking.put_head.Goals as goal

pub returns : goal.returns
returns c = three_put _ _ _ _ _ _ _ c.in_ok-put_start.ensures c.in_ok-put_key.ensures c.in_ok-put_size.ensures
