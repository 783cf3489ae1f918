use Rattle.std.proofs.Common.{◌≡◌, true, take}
use Rattle.std.specs.List.{AllByRecursion, list_any}
use Rattle.std.specs.Ordering.{eq_by_cmp}
use Rattle.package_items.proofs.sorted.has_all.Given as goal

-- each key so far is among them
abbrev pub invariant-loop-key : goal.invariant-loop-key
invariant-loop-key g l = AllByRecursion (λ x. list_any (λ k. eq_by_cmp g.K.Ord.cmp k x) l.sorted ≡ true)
    (take l.key-index l.keys)
