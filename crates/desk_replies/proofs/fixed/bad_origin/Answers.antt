use Rattle.desk_replies.proofs.FixedTexts.{bad_origin_is}
use Rattle.desk_replies.proofs.fixed.bad_origin.Goals as goal

pub returns : goal.returns
returns c = bad_origin_is
