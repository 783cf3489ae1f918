use Rattle.view_map.proofs.Counting.{none_is_drawn_beside}
use Rattle.view_map.proofs.laws.none_is_drawn_beside.Goals as goal

pub returns : goal.returns
returns c = none_is_drawn_beside
