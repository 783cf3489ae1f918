-- What was answered was only shown.
use Rattle.command_desk.proofs.Shown.{changes_served}
use Rattle.command_desk.proofs.changing.show_changes.Goals as goal

pub returns-clause-changes : goal.returns-clause-changes
returns-clause-changes g c = rw c.purpose_of-purpose.ensures at c.bring_in.ensures.brings

pub returns-clause-served : goal.returns-clause-served
returns-clause-served g c =
    changes_served g.S.Store c.args.writer.now c.bring_in.new.writer
    (g.W.Write.contents c.args.writer.now) (g.W.Write.contents c.bring_in.new.writer)
    c.args.ask.now (g.R.Read.remaining c.args.reader) c.args.showing c.args.world.now c.bring_in.new.world
    (g.H.Shelf.failures_of c.args.shelf.now) (g.H.Shelf.failures_of c.bring_in.new.shelf) c.bring_in.result.0
    (rw c.purpose_of-purpose.ensures at c.bring_in.ensures.brings)
