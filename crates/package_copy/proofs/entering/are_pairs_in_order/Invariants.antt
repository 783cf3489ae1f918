use Rattle.std.proofs.Common.{◌≡◌, true}
use Rattle.std.specs.List.{AllAdjacentBelow}
use Rattle.sheet_types.specs.Ordered.{is_before}
use Rattle.package_tables.specs.Shapes.{pair_key}
use Rattle.package_copy.proofs.entering.are_pairs_in_order.Given as goal

-- the keys rise from each row to the next, so far
abbrev pub invariant-loop-at : goal.invariant-loop-at
invariant-loop-at l = AllAdjacentBelow (λ x y. is_before (pair_key x.base_id x.related_id)
    (pair_key y.base_id y.related_id) ≡ true) l.rows l.at
