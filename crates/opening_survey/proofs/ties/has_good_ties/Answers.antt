use Rattle.identity_register.proofs.Looking.{looked, looked_then, tells}
use Rattle.package_items.specs.Answers.{Decides}
use Rattle.package_items.specs.Tied.{AreTied, AreUnique}
use Rattle.opening_survey.specs.Surveying.{TellsTied}
use Rattle.opening_survey.proofs.ties.has_good_ties.Goals as goal

pub returns : goal.returns
returns g c =
    tells TellsTied
    (looked_then (λ t. Decides (AreTied t)) (looked (λ t _. AreUnique t) c.in_ok-check_unique.was
    c.check_unique.ensures) c.in_ok-answer.was c.are_tied.ensures)
    (λ t h. record { unique = h.0; tied = h.1 })
