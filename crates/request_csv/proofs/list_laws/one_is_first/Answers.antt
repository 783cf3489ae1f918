use Rattle.request_csv.proofs.list_laws.one_is_first.Goals as goal
use Rattle.request_csv.proofs.OneReading.{one_is_first}

pub returns : goal.returns
returns c = one_is_first
