-- What the bytes of a file are is not known, at either reading.
use Rattle.std.proofs.Common.{None}
use Rattle.commands.proofs.Makings.{twice_of}
use Rattle.commands.proofs.importing.import_again.Goals as goal

pub returns-in-Ok : goal.returns-in-Ok
returns-in-Ok g c = twice_of _ None None c.args.world.now c.import_twice_in.new.world
    (g.H.Shelf.failures_of c.args.shelf.now) (g.H.Shelf.failures_of c.import_twice_in.new.shelf) c.args.writer.now
    c.import_twice_in.new.writer (g.W.Write.contents c.args.writer.now)
    (g.W.Write.contents c.import_twice_in.new.writer) c.import_twice_in.result c.import_twice_in.ensures
