use Rattle.desk_replies.proofs.FixedTexts.{store_fault_is}
use Rattle.desk_replies.proofs.fixed.store_fault.Goals as goal

pub returns : goal.returns
returns c = store_fault_is
