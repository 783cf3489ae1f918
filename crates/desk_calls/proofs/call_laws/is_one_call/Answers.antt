use Rattle.desk_calls.proofs.OneCall.{one_call}
use Rattle.desk_calls.proofs.call_laws.is_one_call.Goals as goal

pub returns : goal.returns
returns c = one_call
