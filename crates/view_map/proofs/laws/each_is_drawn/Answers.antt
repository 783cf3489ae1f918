use Rattle.view_map.proofs.Counting.{each_is_drawn}
use Rattle.view_map.proofs.laws.each_is_drawn.Goals as goal

pub returns : goal.returns
returns c = each_is_drawn
