use Rattle.request_json.proofs.NoneFacts.{if_none}
use Rattle.request_json.proofs.requests.unlink_of.Goals as goal

pub returns-in_err-package-clause-none : goal.returns-in_err-package-clause-none
returns-in_err-package-clause-none c = if_none c.from_residual.result
    (λ holder base other mapping is. c.in_err-package.ensures.none holder base other mapping is.1)
