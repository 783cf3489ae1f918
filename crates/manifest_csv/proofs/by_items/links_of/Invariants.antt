-- The links so far are those that were told of.
use Rattle.std.proofs.Common.{take}
use Rattle.std.specs.List.{AllZip}
use Rattle.manifest_csv.specs.ByItems.{IsLinkTold}
use Rattle.manifest_csv.proofs.by_items.links_of.Given as goal

abbrev pub invariant-loop-moved : goal.invariant-loop-moved
invariant-loop-moved l = AllZip IsLinkTold (take l.moved-index l.told) l.links.items
