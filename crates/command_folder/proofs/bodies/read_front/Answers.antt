use Rattle.command_folder.proofs.ReadBodies.{read_taken}
use Rattle.command_folder.proofs.bodies.read_front.Goals as goal

pub returns-in-Ok-clause-bytes : goal.returns-in-Ok-clause-bytes
returns-in-Ok-clause-bytes g c = read_taken g.R.Read.remaining c.take.result.limit 2200001 c.take.result.inner
    c.args.reader c.new-body.result.items c.read_to_end.new.buf.items c.take.ensures.limit c.take.ensures.inner
    c.new-body.ensures.items c.in-Ok.ensures.bytes
