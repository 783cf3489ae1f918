use Rattle.request_json.proofs.OneRequest.{no_json}
use Rattle.request_json.proofs.requests.read_request.Goals as goal

pub returns-in-None-clause-none : goal.returns-in-None-clause-none
returns-in-None-clause-none c =
    let none = rw c.in-None.is at c.in_ok-value.ensures in
    no_json c.args.text.now none
