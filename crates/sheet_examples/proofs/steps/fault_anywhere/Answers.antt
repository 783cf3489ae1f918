use Rattle.sheet_examples.proofs.Replies.{fault_anywhere}
use Rattle.sheet_examples.proofs.steps.fault_anywhere.Goals as goal

pub returns : goal.returns
returns c = fault_anywhere
