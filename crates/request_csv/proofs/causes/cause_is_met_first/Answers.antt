use Rattle.request_csv.proofs.causes.cause_is_met_first.Goals as goal
use Rattle.request_csv.proofs.CauseFacts.{cause_is_met_first}

pub returns : goal.returns
returns c = cause_is_met_first
