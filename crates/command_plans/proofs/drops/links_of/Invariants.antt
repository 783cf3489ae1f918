-- The links so far are sifted.
use Rattle.std.proofs.Common.{◌≡◌, filter, take}
use Rattle.command_plans.specs.Drops.{has_end}
use Rattle.command_plans.proofs.drops.links_of.Given as goal

abbrev pub invariant-loop-link : goal.invariant-loop-link
invariant-loop-link l = l.found.items ≡ filter (has_end l.id) (take l.link-index l.links)
