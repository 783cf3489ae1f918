-- Field by field; the parent of a loan is live since the split stands there.
use Rattle.sheet_balance.proofs.Fitness.{register_parts}
use Rattle.sheet_balance.proofs.laws.register_is_balanced_and_fit.Goals as goal

pub returns : goal.returns
returns c = register_parts
