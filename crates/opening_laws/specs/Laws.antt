-- Laws of the opening of a register's stores. Profile.
use Rattle.std.specs.Prelude.{◌≡◌, ◌⊎◌, ◌≤◌, false, List, Result}
use Rattle.std.specs.List.{AllByRecursion}
use Rattle.sqlite.specs.Held.{Held, state}
use Rattle.sqlite.specs.State.{IsLive}
use Rattle.sqlite.specs.Store.{Ghosts}
use Rattle.sqlite.specs.Tree.{Trees}
use Rattle.sheet_types.specs.Lines.{HasTypes}
use Rattle.sheet_types.specs.Refuse.{greatest_receipts}
use Rattle.sheet_types.specs.Register.{IsRegister}
use Rattle.sheet_types.specs.Step.{IsFault, outcome}
use Rattle.sheet_types.specs.World.{World}
use Rattle.sheet_types.specs.declared.command.Request.{Request}
use Rattle.sheet_types.specs.declared.receipt.Receipt.{Receipt}
use Rattle.sheet_types.specs.declared.refusal.Refusal.{Refusal}
use Rattle.sheet_laws.specs.Laws.{StoreSight}
use Rattle.opening_laws_model.specs.Beside.{AreViewsOfWorld}
use Rattle.opening_laws_model.specs.Timely.{IsTimely}
use Rattle.world_changes.specs.Leaving.{AreClean, MayBeLeft, StandsAmong}
use Rattle.world_members.specs.Members.{AllOpen}
use Rattle.world.specs.Worlds.{Seen, StandsFor, IsHeld, IsStep, held}
use Rattle.opening_stores.specs.Judged.{AreViewsOf, IsWant}
use Rattle.opening.specs.Recovered.{IsRecovered, IsUnopened}
use Rattle.opening.specs.declared.recovering.Recovered.{Recovered}
use Rattle.opening.specs.declared.recovering.Unopened.{Unopened}
use Rattle.opening_laws.specs.Stores.{AreStoresOf, AreWithStrays, IsStrayStore, ReadsAsNone, AreReopened}

-- a world whose stores are opened: a register, each receipt of it with a moment
abbrev pub IsKeptWorld : World → Type 0
IsKeptWorld w = IsRegister w × IsTimely w

module _ {S : Type 0} (g : Ghosts S) where
  -- ---- any stores

  -- Right views of a register's stores are views of its packages and of strays.
  abbrev pub ViewsOfStores : Type 0
  ViewsOfStores = (w : World) (stores : List (Held S)) (views : List StoreSight) → IsKeptWorld w →
      AreStoresOf g stores w → AreViewsOf g stores views → AreViewsOfWorld views w

  -- The world that they are opened as stands for the register.
  abbrev pub OpensAgain : Type 0
  OpensAgain = (w : World) (stores : List (Held S)) (found : Recovered S) → IsKeptWorld w → AreStoresOf g stores w
      →
      (is : IsRecovered g stores found) → AreClean g is.now → StandsFor g found.world w

  -- Where they are not opened, it is for none of the nine faults.
  abbrev pub MeetsNoFault : Type 0
  MeetsNoFault = (w : World) (stores : List (Held S)) (refused : Unopened S) → IsKeptWorld w
      → AreStoresOf g stores w →
      IsUnopened g stores refused → AreClean g refused.stores.items → IsWant refused.fault

  -- the stores are those of the world, and no stray reads as a package of it
  abbrev pub AreApart : List (Held S) → World → Type 0
  AreApart stores w = (of : AreStoresOf g stores w) × AllByRecursion (ReadsAsNone g w) of.others

  -- The strays are handed out beside it, and no store of a package is.
  abbrev pub StraysAreTold : Type 0
  StraysAreTold = (w : World) (stores : List (Held S)) (found : Recovered S) → IsKeptWorld w
      → AreStoresOf g stores w →
      (is : IsRecovered g stores found) → AreClean g is.now → AllByRecursion (IsStrayStore g w) found.strays.items

  -- The receipts of a world that was opened say moments, as the opening has read; so it can be stopped and opened
  -- again.
  abbrev pub OpenedIsTimely : Type 0
  OpenedIsTimely = (stores : List (Held S)) (found : Recovered S) → (is : IsRecovered g stores found) →
      (clean : AreClean g is.now) → found.world.count ≤ greatest_receipts → IsTimely (is.opened clean).world

  -- ---- a world at rest

  -- A usable world holds the stores of each register that it stands for.
  abbrev pub RestIsStores : Type 0
  RestIsStores = (seen : Seen S) (w : World) → IsHeld g seen → seen.has_failed ≡ false → StandsFor g seen w →
      AreApart (held g seen) w

  -- So it is opened again as that register, with whatever strays beside it, or memory or a store gave out.
  abbrev pub RestIsOpened : Type 0
  RestIsOpened = (seen : Seen S) (w : World) (stores : List (Held S)) → IsHeld g seen → seen.has_failed ≡ false
      →
      StandsFor g seen w → IsTimely w → AreWithStrays g w (held g seen) stores →
      ((found : Recovered S) (is : IsRecovered g stores found) → AreClean g is.now → StandsFor g found.world w)
      × ((refused : Unopened S) → IsUnopened g stores refused → AreClean g refused.stores.items
      → IsWant refused.fault)

  -- Stores that are opened from whatever a crash left of a world at rest are its stores. Each connection that stands
  -- is live (`Connection::schema` says so of it).
  abbrev pub RestSurvives : Type 0
  RestSurvives = (seen : Seen S) (w : World) (contents : List Trees) (again : List (Held S)) → IsHeld g seen →
      seen.has_failed ≡ false → StandsFor g seen w →
      AllOpen g seen.members → AllByRecursion (λ m. IsLive (state g m.conn)) seen.members →
      MayBeLeft g (held g seen) contents → AreReopened g again contents → AreApart again w

  -- ---- a crash of a request

  -- Stores that are opened from contents that are those of a world's packages, with others beside them, are stores of
  -- that world.
  abbrev pub LeftIsStores : Type 0
  LeftIsStores = (w : World) (contents : List Trees) (again : List (Held S)) →
      StandsAmong w.frame w.packages contents →
      AreReopened g again contents → AreApart again w

  -- what is opened stands for the world before, or for the world that the request makes
  abbrev pub StandsForOneOf : World → Request → Seen S → Type 0
  StandsForOneOf w q seen = StandsFor g seen w ⊎ StandsFor g seen (outcome w q).1

  -- After a fault of a request to a usable world, stores that are opened from whatever a crash
  -- left, with whatever is a stray of both worlds beside them, come to the world before, or to the
  -- one that the request was to make; or memory or a store gave out.
  abbrev pub CrashIsOpened : Type 0
  CrashIsOpened = (q : Request) (old : Seen S) (reply : Result Receipt Refusal) (new : Seen S) (w : World)
      (contents : List Trees) (again stores : List (Held S)) →
      IsStep g q old reply new → IsFault reply → old.has_failed ≡ false → StandsFor g old w →
      AllOpen g old.members → HasTypes q.command → IsTimely w →
      AreClean g (held g new) → MayBeLeft g (held g new) contents → AreReopened g again contents →
      AreWithStrays g w again stores → AreWithStrays g (outcome w q).1 again stores →
      ((found : Recovered S) (is : IsRecovered g stores found) → AreClean g is.now → StandsForOneOf w q found.world)
      × ((refused : Unopened S) → IsUnopened g stores refused → AreClean g refused.stores.items
      → IsWant refused.fault)

  -- ---- one world

  -- Stores of which some views are right are those of one register.
  abbrev pub OneRegisterOfStores : Type 0
  OneRegisterOfStores = (v w : World) (stores : List (Held S)) (views : List StoreSight) → IsKeptWorld v →
      IsKeptWorld w → AreStoresOf g stores v → AreStoresOf g stores w → AreViewsOf g stores views → v ≡ w
