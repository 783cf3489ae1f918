-- The packages that are asked are those of the world.
use Rattle.std.proofs.Common.{◌∙◌, ap, map}
use Rattle.world.specs.Reading.{sight_of}
use Rattle.view_world.proofs.AskedPackages.{of_world}
use Rattle.view_world.proofs.Looked.{not_failed}
use Rattle.view_world.proofs.asking.ask_each.Goals as goal

pub returns-clause-told : goal.returns-clause-told
returns-clause-told g c = λ clean.
    of_world (g.Q.Question.tells c.args.question.now) g.S.Store (λ v. v.items) c.args.world.now c.as_slice.result.now
    c.ask_among.result
    (λ w stands. ap (map sight_of) c.as_slice.ensures.value ∙ c.in_ok-sights.ensures w stands)
    (c.ask_among.ensures.told clean)

pub returns-clause-opens : goal.returns-clause-opens
returns-clause-opens g c = c.ask_among.ensures.opens

pub returns-in_err-sights-clause-failed : goal.returns-in_err-sights-clause-failed
returns-in_err-sights-clause-failed g c =
    not_failed c.args.world.now.has_failed c.in_ok-usable.ensures.passed

pub returns-clause-failed : goal.returns-clause-failed
returns-clause-failed g c = not_failed c.args.world.now.has_failed c.in_ok-usable.ensures.passed
