-- What an opening makes of the stores of live packages: one of the first version is brought to the second. Profile.
use Rattle.std.specs.Prelude.{◌≡◌, ◌⊎◌, ℕ, List, map, Option, Some, MatchOption, Result, Ok, slice_get}
use Rattle.std.specs.Prelude.{slice_set}
use Rattle.std.specs.Prelude.{IsTrue}
use Rattle.std.specs.List.{AllByRecursion, AllZip}
use Rattle.sqlite.specs.Effect.{Database, IsDatabase}
use Rattle.sqlite.specs.Held.{Held, state}
use Rattle.sqlite.specs.State.{State, HasCleanDisk}
use Rattle.sqlite.specs.Store.{Ghosts}
use Rattle.sqlite.specs.Tree.{Trees}
use Rattle.sheet_types.specs.World.{Package}
use Rattle.sheet_types.specs.declared.frame.Frame.{Frame}
use Rattle.store_sql.specs.Transactions.{Rests, Holds, Turns, WouldLeave}
use Rattle.package_v1.specs.FirstVersion.{ReadsAtOne, ReadsAtEither}
use Rattle.package_v1.specs.Migrating.{Brings, BringsIfFirst}
use Rattle.package_tables.specs.declared.fault.Fault.{Fault}
use Rattle.opening_verdict.specs.declared.verdict.Kept.{Kept}

-- ---- one store

-- What bringing makes of a database that reads as a package. One of the second version is as it was. One of the first
-- reads as the same package at the second, and no row of it is written anew: its tables say what they said, with their
-- numbers and moments, but for the third relation and the version, and the third mapping has its index.
pub record BringsOnly (old new : Database) : Type 0 where
  pub either : BringsIfFirst old new
  pub first : Brings old new

-- Whatever a crash may leave of the store is what the database was, or what bringing makes of it.
abbrev pub LeavesOldOrBrought : Database → State → Type 0
LeavesOldOrBrought was s =
    (trees : Trees) → s.may_leave trees
    → (trees ≡ was.trees) ⊎ WouldLeave {X = Unit {0}} (λ _. BringsOnly) was trees

-- Whatever a crash may leave of the store reads as each package that the database read as, at one version or at the
-- other.
abbrev pub LeavesAtEither : Database → State → Type 0
LeavesAtEither was s =
    (f : Frame) (p : Package) → ReadsAtOne f p was → (trees : Trees) → s.may_leave trees
    → ReadsAtEither f p trees

-- A store that an opening looked at, and may have brought to the second version: it is at rest, and
-- where it is open it says what it said, or what bringing makes of that. A crash leaves one or the
-- other, and so the package, at one version or at the other, if the trees of the database before
-- listed its schema.
pub record MayBeBrought (old new : State) : Type 0 where
  pub rests : Rests new
  pub clean : HasCleanDisk new → HasCleanDisk old
  pub was_open : IsTrue new.is_open → IsTrue old.is_open
  pub holds : IsTrue new.is_open → Holds new new.now
  pub says : IsTrue new.is_open → (new.now ≡ old.now) ⊎ BringsOnly old.now new.now
  pub leaves : HasCleanDisk new → IsTrue old.is_open → LeavesOldOrBrought old.now new
  pub left : HasCleanDisk new → IsTrue old.is_open → IsDatabase old.now → LeavesAtEither old.now new

module _ {S : Type 0} (g : Ghosts S) where
  -- each, in turn
  abbrev pub MayAllBeBrought : List (Held S) → List (Held S) → Type 0
  MayAllBeBrought = AllZip (λ a b. MayBeBrought (state g a) (state g b))

  -- What one transaction made of a store: an open one that reads as a package at either version
  -- reads as the same at the second, and nothing else in it has changed.
  pub record IsTurned {E : Type 0} (old new : Held S) (r : Result (Unit {0}) E) : Type 0 where
    pub rests : Rests (state g new)
    pub clean : HasCleanDisk (state g new) → HasCleanDisk (state g old)
    pub turns : IsTrue (state g old).is_open → Turns (λ _. BringsOnly) (state g old) (state g new) r

  -- The store at a place was turned, and all else is as it was.
  pub record TurnsOne {E : Type 0} (old new : List (Held S)) (at : ℕ) (r : Result (Unit {0}) E) : Type 0 where
    pub was : Held S
    pub place : slice_get old at ≡ Some was
    pub last : Held S
    pub others : new ≡ slice_set old at last
    pub turned : IsTurned was last r

  -- it was turned, or it is as it was
  abbrev pub MayBeTurned : Type 0 → Held S → Held S → Type 0
  MayBeTurned E old new = (new ≡ old) ⊎ ((r : Result (Unit {0}) E) × IsTurned old new r)

-- ---- stores in a list

-- a store as it was and as it is, and what is kept of it
pub record Place (S : Type 0) : Type 0 where
  pub kept : Option Kept
  pub old : Held S
  pub now : Held S

-- Of each store of a live package, of which something is kept, this is so; each other is as it was.
pub record AreBrought {S : Type 0} (IsSo : Held S → Held S → Type 0) (kept : List (Option Kept))
    (old new : List (Held S))
    : Type 0 where
  pub places : List (Place S)
  pub kept_is : kept ≡ map (λ p. p.kept) places
  pub old_is : old ≡ map (λ p. p.old) places
  pub new_is : new ≡ map (λ p. p.now) places
  pub each : AllByRecursion (λ p. MatchOption p.kept (p.now ≡ p.old) (λ _. IsSo p.old p.now)) places

module _ {S : Type 0} (g : Ghosts S) where
  -- each store of a live package was turned
  abbrev pub AreAllTurned : List (Option Kept) → List (Held S) → List (Held S) → Type 0
  AreAllTurned = AreBrought (λ a b. IsTurned g {E = Fault} a b (Ok tt))

  -- some may have been
  abbrev pub SomeAreTurned : List (Option Kept) → List (Held S) → List (Held S) → Type 0
  SomeAreTurned = AreBrought (MayBeTurned g Fault)
