use Rattle.opening_laws_model.proofs.laws.register_stands.Goals as goal
use Rattle.opening_laws_model.proofs.Stands.{stands}

pub returns : goal.returns
returns c = λ w views register of. stands w register views of
