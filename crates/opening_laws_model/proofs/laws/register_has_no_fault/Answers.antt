use Rattle.opening_laws_model.proofs.laws.register_has_no_fault.Goals as goal
use Rattle.opening_laws_model.proofs.Stands.{no_faults}

pub returns : goal.returns
returns c = λ w views register of. no_faults w register views of
