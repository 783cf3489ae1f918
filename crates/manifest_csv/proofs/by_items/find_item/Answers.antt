-- An item that stands in a package is found under its identity.
use Rattle.manifest_csv.proofs.ItemFacts.{found_item}
use Rattle.manifest_csv.proofs.by_items.find_item.Goals as goal

pub returns : goal.returns
returns g c = found_item c.args.identity c.find.result c.find.ensures
