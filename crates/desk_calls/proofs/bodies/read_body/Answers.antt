use Rattle.std.proofs.Common.{rules}
use Rattle.desk_calls.proofs.BodyFacts.{enough_asks}
use Rattle.desk_calls.proofs.bodies.read_body.Goals as goal

pub returns-clause-asks : goal.returns-clause-asks
returns-clause-asks g c = enough_asks _ _ _ _ c.args.start c.args.size _ c.in_ok-gather_body.ensures.taken
    c.requires.head (search rules) (search rules)
