use Rattle.desk_replies.proofs.FixedTexts.{bad_method_is}
use Rattle.desk_replies.proofs.fixed.bad_method.Goals as goal

pub returns : goal.returns
returns c = bad_method_is
