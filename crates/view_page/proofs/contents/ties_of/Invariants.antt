-- The links so far are told.
use Rattle.std.proofs.Common.{◌≡◌, map, take}
use Rattle.view_page.specs.Registers.{tie_of}
use Rattle.view_page.proofs.contents.ties_of.Given as goal

abbrev pub invariant-loop-link : goal.invariant-loop-link
invariant-loop-link l = l.ties.items ≡ map (tie_of l.holder) (take l.link-index l.links)
