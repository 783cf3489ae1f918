use Rattle.desk_replies.proofs.FixedTexts.{bad_request_is}
use Rattle.desk_replies.proofs.fixed.bad_request.Goals as goal

pub returns : goal.returns
returns c = bad_request_is
