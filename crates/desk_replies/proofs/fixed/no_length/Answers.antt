use Rattle.desk_replies.proofs.FixedTexts.{no_length_is}
use Rattle.desk_replies.proofs.fixed.no_length.Goals as goal

pub returns : goal.returns
returns c = no_length_is
