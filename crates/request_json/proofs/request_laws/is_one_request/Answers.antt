use Rattle.request_json.proofs.OneRequest.{one_request}
use Rattle.request_json.proofs.request_laws.is_one_request.Goals as goal

pub returns : goal.returns
returns c = one_request
