-- The run, and the request that comes twice behind it.
use Rattle.promises.proofs.Twice.{once_for_good}
use Rattle.promises.proofs.repeating.run_and_repeat.Goals as goal

pub returns-in-Some-repeat : goal.returns-in-Some-repeat
returns-in-Some-repeat g c =
    once_for_good g.S.Store g.H.Shelf.asks g.H.Shelf.takes c.args.archive c.args.frame.now c.args.before.now
    c.args.request.now c.args.others.now c.in-Some.begun c.repeat.new.world c.in-Some-repeat.replies _ _ _
    c.have_types.ensures c.has_types.ensures c.have_types-2.ensures c.in-Some.ensures c.in-Some-repeat.ensures
