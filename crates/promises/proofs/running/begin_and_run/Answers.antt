-- The requests lead on from the new world.
use Rattle.promises.proofs.Begun.{begun}
use Rattle.promises.proofs.running.begin_and_run.Goals as goal

pub returns-in-Ok : goal.returns-in-Ok
returns-in-Ok g c =
    begun g.S.Store g.H.Shelf.asks g.H.Shelf.takes c.args.archive c.args.frame.now c.args.requests.now
    c.in-Some.world c.run.new.self c.in-Ok.replies.items _ _ _ _ _ c.in-Some.ensures.new c.in-Some.ensures.asked
    c.in-Ok.ensures.uses
