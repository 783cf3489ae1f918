-- The lemma says it.
use Rattle.opening_survey.proofs.Packing.{reads_as_a_package}
use Rattle.opening_survey.proofs.laws.reads_as_a_package.Goals as goal

pub returns : goal.returns
returns c = reads_as_a_package
