-- What the bytes of a file are is not known.
use Rattle.std.proofs.Common.{None}
use Rattle.commands.proofs.Makings.{imports_of}
use Rattle.commands.proofs.importing.import_file.Goals as goal

pub returns : goal.returns
returns g c = imports_of _ None c.args.world.now c.import_in.new.world (g.H.Shelf.failures_of c.args.shelf.now)
    (g.H.Shelf.failures_of c.import_in.new.shelf) c.args.writer.now c.import_in.new.writer
    (g.W.Write.contents c.args.writer.now) (g.W.Write.contents c.import_in.new.writer) c.import_in.result
    c.import_in.ensures
