use Rattle.package_receipts.proofs.Walking.{receipts_there}
use Rattle.package_receipts.proofs.laws.rows_say_receipts.Goals as goal

pub returns : goal.returns
returns c = receipts_there
