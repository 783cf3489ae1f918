use Rattle.desk_replies.proofs.FixedTexts.{ask_again_is}
use Rattle.desk_replies.proofs.fixed.ask_again.Goals as goal

pub returns : goal.returns
returns c = ask_again_is
