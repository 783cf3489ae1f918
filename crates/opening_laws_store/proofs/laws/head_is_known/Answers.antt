use Rattle.opening_laws_store.proofs.laws.head_is_known.Goals as goal
use Rattle.opening_laws_store.proofs.Headed.{head_is_known}

pub returns : goal.returns
returns c = head_is_known
