use Rattle.commands.proofs.StreamFacts.{applied_kept}
use Rattle.commands.proofs.streaming.answer.Goals as goal

pub returns : goal.returns
returns g c = applied_kept _ _ _ _ _ _ _ _ c.write_reply-ending.ensures c.flush-flushed.ensures.bytes
