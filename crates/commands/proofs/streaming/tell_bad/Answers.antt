use Rattle.commands.proofs.StreamFacts.{prints_kept}
use Rattle.commands.proofs.streaming.tell_bad.Goals as goal

pub returns : goal.returns
returns g c =
    prints_kept _ _ _ _ _ _ (rw c.output_of.ensures at c.write_text-ending.ensures) c.flush-flushed.ensures.bytes
