use Rattle.opening_laws_store.proofs.laws.lent_head_is_low.Goals as goal
use Rattle.opening_laws_store.proofs.Headed.{lent_head_is_low}

pub returns : goal.returns
returns c = lent_head_is_low
