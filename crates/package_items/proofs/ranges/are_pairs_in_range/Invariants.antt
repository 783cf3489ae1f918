use Rattle.std.proofs.Common.{◌≡◌, true, take}
use Rattle.std.specs.List.{AllByRecursion}
use Rattle.package_items.specs.Ranges.{is_pair_in_range}
use Rattle.package_items.proofs.ranges.are_pairs_in_range.Given as goal

-- each row so far is in its ranges
abbrev pub invariant-loop-pair : goal.invariant-loop-pair
invariant-loop-pair l = AllByRecursion (λ r. is_pair_in_range r ≡ true) (take l.pair-index l.pairs)
