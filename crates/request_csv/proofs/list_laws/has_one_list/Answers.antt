use Rattle.request_csv.proofs.list_laws.has_one_list.Goals as goal
use Rattle.request_csv.proofs.OneReading.{has_one_list}

pub returns : goal.returns
returns c = has_one_list
