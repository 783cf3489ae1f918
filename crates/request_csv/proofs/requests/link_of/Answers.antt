use Rattle.sheet_types.specs.Step.{relation}
use Rattle.request_csv.proofs.NoneFacts.{if_none}
use Rattle.request_csv.proofs.requests.link_of.Goals as goal

pub returns-in_err-package-clause-none : goal.returns-in_err-package-clause-none
returns-in_err-package-clause-none c = if_none c.from_residual.result
    (λ holder base other mapping is. c.in_err-package.ensures.none holder (relation mapping base other) is.1)
