-- A package that is live has answered.
use Rattle.view_world.proofs.asking.ask_one.Goals as goal

pub returns-in-Some-clause-told : goal.returns-in-Some-clause-told
returns-in-Some-clause-told g c = λ clean w stands.
    let told = rw c.in-Some.is at c.in_ok-answer.ensures.told in
    (told clean w stands).1

pub returns-in-Some-clause-opens : goal.returns-in-Some-clause-opens
returns-in-Some-clause-opens g c = c.in_ok-answer.ensures.opens
