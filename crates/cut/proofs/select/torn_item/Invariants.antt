use Rattle.std.proofs.Common.{take}
use Rattle.cut.specs.Gathering.{IsLeast, torn_ends, has_member}
use Rattle.cut.proofs.select.torn_item.Given as goal

abbrev pub invariant-loop-link : goal.invariant-loop-link
invariant-loop-link l = IsLeast (torn_ends (has_member l.gathered.items) (take l.link-index l.link-items)) l.least
