use Rattle.request_csv.proofs.list_laws.list_has_no_fault.Goals as goal
use Rattle.request_csv.proofs.OneReading.{list_has_no_fault}

pub returns : goal.returns
returns c = list_has_no_fault
