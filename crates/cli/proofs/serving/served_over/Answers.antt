-- The world that is handed on is served.
use Rattle.sheet_types.specs.World.{new_world}
use Rattle.cli.proofs.ServedAfter.{then_served}
use Rattle.cli.proofs.serving.served_over.Goals as goal

pub returns : goal.returns
returns g c = λ clean text list.
    then_served _ clean (new_world c.args.rehearsal.now.archive c.args.rehearsal.now.frame) text c.args.writer.now
    c.handed_on.new.writer (g.W.Write.contents c.args.writer.now) (g.W.Write.contents c.handed_on.new.writer)
    c.in_ok-world.world c.serve_each-ended.new.world c.args.count (c.in_ok-world.ensures clean text list)
    c.serve_each-ended.ensures.served
