-- The stop, and what was opened of what it left.
use Rattle.promises.proofs.Survived.{survives_from}
use Rattle.promises.proofs.surviving.run_stop_and_go_on.Goals as goal

pub returns-in-Some-open_and_run : goal.returns-in-Some-open_and_run
returns-in-Some-open_and_run g c =
    survives_from g.S.Store g.H.Shelf.asks g.H.Shelf.takes c.args.archive c.args.frame.now c.args.before.now
    c.args.stores.items c.in-Some-run_and_stop.stopped c.in-Some-open_and_run.resumed _ _ _ _ c.args.again.now
    c.in-Some.request.now c.in-Some.ensures.value c.have_types.ensures c.has_types.ensures
    c.in-Some-open_and_run.ensures c.in-Some-run_and_stop.ensures
