use Rattle.desk_replies.proofs.FixedTexts.{too_large_is}
use Rattle.desk_replies.proofs.fixed.too_large.Goals as goal

pub returns : goal.returns
returns c = too_large_is
