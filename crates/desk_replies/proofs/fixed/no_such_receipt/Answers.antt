use Rattle.desk_replies.proofs.FixedTexts.{no_such_receipt_is}
use Rattle.desk_replies.proofs.fixed.no_such_receipt.Goals as goal

pub returns : goal.returns
returns c = no_such_receipt_is
