use Rattle.cut.proofs.Kept.{kept_in_order}
use Rattle.cut.proofs.laws.kept_is_in_order.Goals as goal

pub returns : goal.returns
returns c = kept_in_order
