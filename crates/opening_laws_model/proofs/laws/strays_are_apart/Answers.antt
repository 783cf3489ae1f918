use Rattle.opening_laws_model.proofs.laws.strays_are_apart.Goals as goal
use Rattle.opening_laws_model.proofs.Stands.{members_live, others_apart}

pub returns : goal.returns
returns c = λ w views register of. (members_live w register views of, others_apart w register views of)
