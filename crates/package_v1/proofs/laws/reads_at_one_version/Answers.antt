-- The lemma says it.
use Rattle.package_v1.proofs.Alone.{reads_at_one_version}
use Rattle.package_v1.proofs.laws.reads_at_one_version.Goals as goal

pub returns : goal.returns
returns c = reads_at_one_version
