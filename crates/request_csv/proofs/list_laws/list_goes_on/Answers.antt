use Rattle.request_csv.proofs.list_laws.list_goes_on.Goals as goal
use Rattle.request_csv.proofs.OneReading.{list_goes_on}

pub returns : goal.returns
returns c = list_goes_on
