-- A package that was just made.
use Rattle.std.specs.Prelude.{◌≡◌, ℕ, List, [], ◌∷◌, map, Option}
use Rattle.sqlite.specs.Tree.{Trees}
use Rattle.sqlite.specs.State.{State}
use Rattle.store_sql.specs.Transactions.{Holds}
use Rattle.sheet_types.specs.World.{Package, no_package}
use Rattle.sheet_types.specs.declared.frame.Frame.{Frame}
use Rattle.package_tables.specs.Package.{tables_of}
use Rattle.identity_register.specs.Calls.{HasLastChange}
use Rattle.identity_register.specs.Reads.{Reads}

-- the package that a head tells, with no items, no links and no receipts
abbrev pub new_package : List ℕ → Option (List ℕ) → ℕ → ℕ → Package
new_package uuid parent depth loan = record no_package { uuid = uuid; parent = parent; depth = depth; loan = loan }

-- The store is open and at rest and reads as this package, and so does all that a crash leaves of it.
pub record Keeps (f : Frame) (p : Package) (s : State) : Type 0 where
  pub holds : Holds s s.now
  pub reads : Reads f p s.now
  pub left : (trees : Trees) → s.may_leave trees → Reads f p (record { schema = s.now.schema; trees = trees })

-- The one head of a store says that its package was made at this moment, which is that of its last change too.
pub record IsMadeAt (f : Frame) (at : List ℕ) (s : State) : Type 0 where
  pub created : map (λ h. h.created) (tables_of s.now).heads ≡ at ∷ []
  pub last_change : HasLastChange f at s.now
