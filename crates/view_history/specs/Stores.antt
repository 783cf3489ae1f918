-- What is asked of the stores of packages, one after the other. None is written to. Profile.
use Rattle.std.specs.Prelude.{◌≡◌, ℕ, List, All, Some, Result, IfOk, IsTrue, slice_get, slice_set}
use Rattle.std.specs.List.{AllZip}
use Rattle.sqlite.specs.Held.{Held, state}
use Rattle.sqlite.specs.State.{HasCleanDisk}
use Rattle.sqlite.specs.Store.{Ghosts}
use Rattle.sheet_types.specs.World.{Package}
use Rattle.sheet_types.specs.declared.frame.Frame.{Frame}
use Rattle.store_sql.specs.Staying.{Stays}
use Rattle.store_sql.specs.Transactions.{Rests, Looks}
use Rattle.identity_register.specs.Calls.{Sees}
use Rattle.identity_register.specs.Reads.{Reads}

module _ {S : Type 0} (g : Ghosts S) where
  -- each of these disks has given back what was written
  abbrev pub AreClean : List (Held S) → Type 0
  AreClean = All (λ h. HasCleanDisk (state g h))

  -- none of these stores is inside a transaction
  abbrev pub AreAtRest : List (Held S) → Type 0
  AreAtRest = All (λ h. Rests (state g h))

  abbrev pub StaysStore : Held S → Held S → Type 0
  StaysStore a b = Stays (state g a) (state g b)

  -- each was only read, if at all
  abbrev pub AreOnlyRead : List (Held S) → List (Held S) → Type 0
  AreOnlyRead old new = AllZip StaysStore old new

  -- the store, where it is open, reads as this package
  abbrev pub IsRead : Frame → Held S → Package → Type 0
  IsRead f h p = IsTrue (state g h).is_open → Reads f p (state g h).now

  -- the stores are those of these packages, in turn
  abbrev pub AreRead : Frame → List (Held S) → List Package → Type 0
  AreRead f stores packages = AllZip (IsRead f) stores packages

  -- The store at a place was asked, and all else is as it was.
  pub record AsksAt {X E : Type 0} (Tells : Package → X → Type 0) (old new : List (Held S)) (at : ℕ)
      (r : Result X E) : Type 0 where
    pub was : Held S
    pub place : slice_get old at ≡ Some was
    pub last : Held S
    pub others : new ≡ slice_set old at last
    pub looked : Looks (Sees (λ f p x. Tells p x)) (state g was) (state g last) r

  -- All stores were only read, if at all, and where each disk gave back what was written the answer is true of the
  -- packages that they are of.
  pub record AsksStores {X E : Type 0} (Answer : List Package → X → Type 0) (old new : List (Held S))
      (r : Result X E) : Type 0 where
    pub rests : AreAtRest new
    pub read : AreOnlyRead old new
    pub told : AreClean new → IfOk r (λ x. (f : Frame) (packages : List Package) → AreRead f old packages
        → Answer packages x)
