-- A step, a run and a step.
use Rattle.promises.proofs.Twice.{runs_twice}
use Rattle.promises.proofs.repeating.repeat.Goals as goal

pub returns-in-Ok : goal.returns-in-Ok
returns-in-Ok g c =
    runs_twice g.S.Store g.H.Shelf.asks g.H.Shelf.takes c.args.request.now c.args.others.now c.args.world.now
    c.apply-first.new.self c.run.new.self c.apply-again.new.self c.apply-first.result c.apply-again.result _ _ _
    _ _ _ _
    c.apply-first.ensures.uses c.in-Ok.ensures.uses c.apply-again.ensures.uses
