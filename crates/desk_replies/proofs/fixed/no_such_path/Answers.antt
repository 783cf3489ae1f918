use Rattle.desk_replies.proofs.FixedTexts.{no_such_path_is}
use Rattle.desk_replies.proofs.fixed.no_such_path.Goals as goal

pub returns : goal.returns
returns c = no_such_path_is
