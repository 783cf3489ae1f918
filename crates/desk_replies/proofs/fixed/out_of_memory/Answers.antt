use Rattle.desk_replies.proofs.FixedTexts.{out_of_memory_is}
use Rattle.desk_replies.proofs.fixed.out_of_memory.Goals as goal

pub returns : goal.returns
returns c = out_of_memory_is
