-- Stores in a list that are looked at one after the other. Profile.
use Rattle.std.specs.Prelude.{◌≡◌, ℕ, List, All, Some, Result, slice_get, slice_set, IsTrue}
use Rattle.std.specs.List.{AllZip}
use Rattle.sqlite.specs.Held.{Held, state}
use Rattle.sqlite.specs.State.{HasCleanDisk}
use Rattle.sqlite.specs.Store.{Ghosts}
use Rattle.store_sql.specs.Staying.{Stays}
use Rattle.store_sql.specs.Writing.{AreKeyed}
use Rattle.package_schema.specs.Looking.{LooksAt}
use Rattle.opening_v1.specs.Either.{IsSeenAtEither}
use Rattle.opening_verdict.specs.declared.seen.StoreSeen.{StoreSeen}
use Rattle.world_changes.specs.Leaving.{AreClean}

module _ {S : Type 0} (g : Ghosts S) where
  -- each has its tables in the order of their rowids, as one that was just opened has
  abbrev pub AreAllKeyed : List (Held S) → Type 0
  AreAllKeyed = All (λ h. HasCleanDisk (state g h) → AreKeyed (state g h).now)

  abbrev pub StaysStore : Held S → Held S → Type 0
  StaysStore a b = Stays (state g a) (state g b)

  -- each was only read, if at all
  abbrev pub AreOnlyRead : List (Held S) → List (Held S) → Type 0
  AreOnlyRead old new = AllZip StaysStore old new

  -- The store at a place was looked at, and all else is as it was.
  pub record LooksAtOne {E : Type 0} (old new : List (Held S)) (at : ℕ) (r : Result StoreSeen E) : Type 0 where
    pub was : Held S
    pub place : slice_get old at ≡ Some was
    pub last : Held S
    pub others : new ≡ slice_set old at last
    pub looked : LooksAt IsSeenAtEither (state g was) (state g last) r

  -- The store is open, and of what it holds this was seen, rightly.
  pub record IsSurveyed (h : Held S) (seen : StoreSeen) : Type 0 where
    pub is_open : IsTrue (state g h).is_open
    pub right : IsSeenAtEither (state g h).now seen

  -- each that has a clean disk is open
  abbrev pub AreOpenWhereClean : List (Held S) → Type 0
  AreOpenWhereClean = All (λ h. HasCleanDisk (state g h) → IsTrue (state g h).is_open)

  -- of each, where the disks have given back what was written
  abbrev pub AreSurveyed : List (Held S) → List (Held S) → List StoreSeen → Type 0
  AreSurveyed old new seen = AreAllKeyed old → AreClean g new → AllZip IsSurveyed new seen
