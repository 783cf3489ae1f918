use Rattle.std.proofs.Common.{◌≡◌, true, take}
use Rattle.std.specs.List.{AllByRecursion}
use Rattle.package_items.specs.Ties.{has_names}
use Rattle.package_items.proofs.tied.have_names.Given as goal

-- each pair so far has both
abbrev pub invariant-loop-pair : goal.invariant-loop-pair
invariant-loop-pair l = AllByRecursion (λ r. has_names l.names l.mapping r ≡ true) (take l.pair-index l.pairs)
