use Rattle.sheet_examples.proofs.limits.full_package.Goals as goal
use Rattle.sheet_examples.proofs.Full.{full_package}

pub returns : goal.returns
returns c = full_package
