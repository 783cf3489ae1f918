-- The answers in turn are the loans of the packages.
use Rattle.std.proofs.Common.{◌≡◌}
use Rattle.std.specs.List.{AllZip}
use Rattle.view_history.proofs.Asked.{asks_so}
use Rattle.view_history.proofs.OwnHeads.{zip_map}
use Rattle.view_history.proofs.loans.loans_of.Goals as goal

pub returns : goal.returns
returns g c =
    asks_so g.S.Store (λ packages answers. AllZip (λ p loan. loan ≡ p.loan) packages answers.items)
    c.ask_each.result
    (λ packages loans each. zip_map (λ p. p.loan) packages loans.items each) c.ask_each.ensures
