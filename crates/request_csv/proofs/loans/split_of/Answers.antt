use Rattle.request_csv.proofs.NoneFacts.{if_none}
use Rattle.request_csv.proofs.loans.split_of.Goals as goal

pub returns-in_err-rect-clause-none : goal.returns-in_err-rect-clause-none
returns-in_err-rect-clause-none c = if_none c.from_residual-in_err-rect.result
    (λ source child mode rect is. c.in_err-rect.ensures.none rect is.1.3)
