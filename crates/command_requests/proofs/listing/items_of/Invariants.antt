-- The items so far are listed.
use Rattle.std.proofs.Common.{◌≡◌, map, take}
use Rattle.command_requests.specs.Listing.{item_entry}
use Rattle.command_requests.proofs.listing.items_of.Given as goal

abbrev pub invariant-loop-item : goal.invariant-loop-item
invariant-loop-item l = l.entries.items ≡ map (item_entry l.holder) (take l.item-index l.items)
