-- When stores that are handed in are those of a register, with strays beside them, and how they come from what a
-- crash left. Profile.
use Rattle.std.specs.Prelude.{◌⊎◌, pos, List, ◌++◌, IsPermutation, IsTrue, Contains}
use Rattle.std.specs.List.{AllByRecursion, AllZip}
use Rattle.sqlite.specs.Effect.{Database}
use Rattle.sqlite.specs.Held.{Held, state}
use Rattle.sqlite.specs.Store.{Ghosts}
use Rattle.sqlite.specs.Tree.{Trees}
use Rattle.sheet_types.specs.Opening.{Head}
use Rattle.sheet_types.specs.World.{World, Package}
use Rattle.store_sql.specs.Transactions.{IsAdopted}
use Rattle.identity_register.specs.Reads.{Reads}
use Rattle.package_schema.specs.Heads.{IsHead, IsHeadAt}
use Rattle.opening_laws_model.specs.Beside.{IsUnknown}

-- the head of a store, of the first version or of the second
abbrev pub IsHeadAtEither : Database → Head → Type 0
IsHeadAtEither db head = IsHeadAt (pos 1) db head ⊎ IsHead db head

-- whatever head it says is that of a loan that is no package of the world
abbrev pub SaysUnknown : World → Database → Type 0
SaysUnknown w db = (head : Head) → IsHeadAtEither db head → IsUnknown w head

module _ {S : Type 0} (g : Ghosts S) where
  -- where it is open, the store reads as the package
  abbrev pub IsStoreOf : World → Held S → Package → Type 0
  IsStoreOf w h p = IsTrue (state g h).is_open → Reads w.frame p (state g h).now

  -- where it is open, whatever head it says, of either version, is that of a loan that is no
  -- package of the world; it may have none, and be any database
  abbrev pub IsStrayStore : World → Held S → Type 0
  IsStrayStore w h = IsTrue (state g h).is_open → SaysUnknown w (state g h).now

  -- where it is open, no package of the world is read from it
  abbrev pub ReadsAsNone : World → Held S → Type 0
  ReadsAsNone w h = IsTrue (state g h).is_open → (p : Package) → Contains w.packages p →
      Reads w.frame p (state g h).now → ⊥

  -- Of stores in any order, one is that of each package of the world, and the rest are strays.
  pub record AreStoresOf (stores : List (Held S)) (w : World) : Type 0 where
    pub members : List (Held S)
    pub others : List (Held S)
    pub all : IsPermutation stores (members ++ others)
    pub each : AllZip (IsStoreOf w) members w.packages
    pub beside : AllByRecursion (IsStrayStore w) others

  -- each was opened from these contents, in turn
  abbrev pub AreReopened : List (Held S) → List Trees → Type 0
  AreReopened stores contents = AllZip (λ h trees. IsAdopted (state g h) trees) stores contents

  -- The stores are these and further ones, in any order, and the further ones are strays of the world.
  pub record AreWithStrays (w : World) (these stores : List (Held S)) : Type 0 where
    pub further : List (Held S)
    pub all : IsPermutation stores (these ++ further)
    pub strays : AllByRecursion (IsStrayStore w) further
