use Rattle.std.proofs.Common.{◌≡◌, true}
use Rattle.sqlite.specs.Held.{state}
use Rattle.identity_register.proofs.Reaching.{GoesOn}
use Rattle.package_items.specs.Walks.{is_placed_in_range, placed_in}
use Rattle.package_items.proofs.Walking.{AreNumbered, SoFar}
use Rattle.package_items.proofs.ranges.rows_in_range.Given as goal

-- The store is as it was, and each row up to the last one is in its ranges.
abbrev pub invariant-loop : goal.invariant-loop
invariant-loop g l = GoesOn (λ t. AreNumbered t → SoFar (λ x. is_placed_in_range l.fn.frame x ≡ true) l.last
    (placed_in l.fn.table t)) (state g.S.Store l.fn.conn) (state g.S.Store l.conn)
