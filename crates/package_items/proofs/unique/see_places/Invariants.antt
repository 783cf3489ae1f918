use Rattle.sqlite.specs.Held.{state}
use Rattle.identity_register.proofs.Reaching.{GoesOn}
use Rattle.package_items.specs.Walks.{placed_in}
use Rattle.package_items.specs.declared.user_tables.UserTable.TheVariants.{TileTable}
use Rattle.package_items.proofs.Seen.{IsNoted}
use Rattle.package_items.proofs.Walking.{AreNumbered, SoFar}
use Rattle.package_items.proofs.unique.see_places.Given as goal

-- The store is as it was, and the spot of each tile up to the last one is noted.
abbrev pub invariant-loop : goal.invariant-loop
invariant-loop g l = GoesOn (λ t. AreNumbered t → SoFar (IsNoted l.spots.items) l.last (placed_in TileTable t))
    (state g.S.Store l.fn.conn) (state g.S.Store l.conn)
