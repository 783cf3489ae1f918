use Rattle.std.proofs.Common.{◌≡◌, true}
use Rattle.std.specs.List.{AllAdjacentBelow}
use Rattle.sheet_types.specs.Ordered.{is_before}
use Rattle.package_copy.proofs.entering.are_in_order.Given as goal

-- the keys rise from each row to the next, so far
abbrev pub invariant-loop-at : goal.invariant-loop-at
invariant-loop-at g l = AllAdjacentBelow (λ x y. is_before (g.T.Entered.list.shape.key x)
    (g.T.Entered.list.shape.key y) ≡ true) l.rows l.at
