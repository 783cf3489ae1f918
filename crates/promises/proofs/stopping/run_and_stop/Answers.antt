-- The run, and the request behind it.
use Rattle.promises.proofs.Stopped.{stops_whole}
use Rattle.promises.proofs.stopping.run_and_stop.Goals as goal

pub returns : goal.returns
returns g c =
    stops_whole g.S.Store g.H.Shelf.asks g.H.Shelf.takes c.args.archive c.args.frame.now c.args.before.now
    c.args.request.now c.in-Some.begun c.ask-last.new.world c.ask-last.result _ _ _ c.have_types.ensures
    c.has_types.ensures c.in-Some.ensures c.ask-last.ensures
