-- The lemma says it.
use Rattle.package_v1.proofs.Alone.{first_reads_alone}
use Rattle.package_v1.proofs.laws.first_reads_alone.Goals as goal

pub returns : goal.returns
returns c = first_reads_alone
