use Rattle.request_csv.proofs.forms.fault_asks_nothing.Goals as goal
use Rattle.request_csv.proofs.UnmetForms.{fault_asks_nothing}

pub returns : goal.returns
returns c = fault_asks_nothing
