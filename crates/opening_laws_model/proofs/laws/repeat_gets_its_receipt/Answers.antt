use Rattle.opening_laws_model.proofs.laws.repeat_gets_its_receipt.Goals as goal
use Rattle.opening_laws_model.proofs.Repeated.{repeat_gets_its_receipt}

pub returns : goal.returns
returns c = repeat_gets_its_receipt
