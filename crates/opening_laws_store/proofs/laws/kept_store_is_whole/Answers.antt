use Rattle.opening_laws_store.proofs.laws.kept_store_is_whole.Goals as goal
use Rattle.opening_laws_store.proofs.Whole.{kept_store_is_whole}

pub returns : goal.returns
returns c = kept_store_is_whole
