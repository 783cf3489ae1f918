-- The lemma says it.
use Rattle.identity_register.proofs.OnePackage.{reads_alone}
use Rattle.identity_register.proofs.laws.reads_alone.Goals as goal

pub returns : goal.returns
returns c = reads_alone
