use Rattle.opening_laws_model.proofs.laws.unknown_is_stray.Goals as goal
use Rattle.opening_laws_model.proofs.Bounds.{unknown_is_stray}

pub returns : goal.returns
returns c = unknown_is_stray
