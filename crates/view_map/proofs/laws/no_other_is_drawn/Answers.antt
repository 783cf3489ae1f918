use Rattle.view_map.proofs.Counting.{no_other_is_drawn}
use Rattle.view_map.proofs.laws.no_other_is_drawn.Goals as goal

pub returns : goal.returns
returns c = no_other_is_drawn
