-- The world was made of the store that the shelf was asked for.
use Rattle.promises.proofs.running.begin.Goals as goal

pub returns-in-Ok-create-clause-new : goal.returns-in-Ok-create-clause-new
returns-in-Ok-create-clause-new g c =
    record {
      stands = c.in-Ok-create.ensures.made;
      opens = c.in-Ok-create.ensures.opens;
      usable = c.in-Ok-create.ensures.usable;
    }
