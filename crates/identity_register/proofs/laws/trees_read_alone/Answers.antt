-- The lemma says it.
use Rattle.identity_register.proofs.OnePackage.{trees_read_alone}
use Rattle.identity_register.proofs.laws.trees_read_alone.Goals as goal

pub returns : goal.returns
returns c = trees_read_alone
