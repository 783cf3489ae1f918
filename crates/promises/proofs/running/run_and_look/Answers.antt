-- The run, and the look behind it.
use Rattle.promises.proofs.Shown.{one_world, as_if_unasked}
use Rattle.promises.proofs.running.run_and_look.Goals as goal

pub returns-in-Some-look-clause-one_world : goal.returns-in-Some-look-clause-one_world
returns-in-Some-look-clause-one_world g c =
    one_world g.S.Store g.H.Shelf.asks g.H.Shelf.takes c.args.archive c.args.frame.now c.args.requests.now
    c.args.«package» _ _ c.in-Some.begun c.look.new.world c.in-Some-look.told c.in-Some.ensures
    c.in-Some-look.ensures

pub returns-in-Some-look-clause-as_if_unasked : goal.returns-in-Some-look-clause-as_if_unasked
returns-in-Some-look-clause-as_if_unasked g c =
    as_if_unasked g.S.Store g.H.Shelf.asks g.H.Shelf.takes c.args.archive c.args.frame.now c.args.requests.now
    c.args.«package» _ _ c.in-Some.begun c.look.new.world c.in-Some-look.told c.in-Some.ensures
    c.in-Some-look.ensures
