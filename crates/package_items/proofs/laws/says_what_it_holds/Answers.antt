-- The lemma says it.
use Rattle.package_items.proofs.Holding.{says_what_it_holds}
use Rattle.package_items.proofs.laws.says_what_it_holds.Goals as goal

pub returns : goal.returns
returns c = says_what_it_holds
