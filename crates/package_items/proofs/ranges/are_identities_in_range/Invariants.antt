use Rattle.std.proofs.Common.{take}
use Rattle.std.specs.List.{AllByRecursion}
use Rattle.package_items.specs.Ranges.{IsIdentityInRange}
use Rattle.package_items.proofs.ranges.are_identities_in_range.Given as goal

-- each row so far is in its ranges
abbrev pub invariant-loop-row : goal.invariant-loop-row
invariant-loop-row l = AllByRecursion IsIdentityInRange (take l.row-index l.rows)
