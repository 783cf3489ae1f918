-- The first package that has it tells it.
use Rattle.std.proofs.Common.{◌≡◌, ◌∙◌}
use Rattle.std.specs.List.{AllZip}
use Rattle.view_history.specs.Told.{moment_of}
use Rattle.view_history.proofs.Asked.{asks_then, asks_lost}
use Rattle.view_history.proofs.Dates.{moment_among}
use Rattle.view_history.proofs.moments.moment_of.Goals as goal

pub returns-in_err-found : goal.returns-in_err-found
returns-in_err-found g c = asks_lost g.S.Store _ c.from_residual.result c.from_residual.ensures.0 c.ask_each.ensures

pub returns : goal.returns
returns g c =
    asks_then g.S.Store (λ packages found. AllZip (λ p x. x ≡ moment_of p.receipts c.args.number) packages
    found.items) c.in_ok-found.was
    (λ packages each. c.first_found.ensures ∙ moment_among c.args.number packages c.in_ok-found.found.items each)
    c.ask_each.ensures
