use Rattle.command_folder.proofs.Texts.{no_memory_is}
use Rattle.command_folder.proofs.replies.no_memory_body.Goals as goal

pub returns : goal.returns
returns c = no_memory_is
