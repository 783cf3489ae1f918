-- Found exactly where it is among them.
use Rattle.std.proofs.Common.{◌∙◌}
use Rattle.package_items.proofs.Searching.{searched_any}
use Rattle.package_items.proofs.sorted.has.Goals as goal

pub returns : goal.returns
returns g c = c.is_ok.ensures.value ∙ searched_any g.met.K.Ord.total c.args.sorted.now c.args.key.now
    c.binary_search.result c.requires c.binary_search.ensures.bound c.binary_search.ensures.position
