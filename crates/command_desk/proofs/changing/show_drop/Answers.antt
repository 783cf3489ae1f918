-- What would be dropped was only shown.
use Rattle.command_desk.proofs.Shown.{drop_served}
use Rattle.command_desk.proofs.changing.show_drop.Goals as goal

pub returns-clause-drops : goal.returns-clause-drops
returns-clause-drops g c = rw c.as_shown-shown.ensures at c.drop_in.ensures

pub returns-clause-served : goal.returns-clause-served
returns-clause-served g c =
    let is = rw c.as_shown-shown.ensures at c.drop_in.ensures in
    drop_served g.S.Store g.N.Identities.gives c.args.dropping.now c.args.identities.now c.drop_in.new.identities
    c.args.world.now c.drop_in.new.world is.outcome is.faults is.more is.made
