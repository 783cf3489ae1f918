-- What a register keeps when it is opened: the fifth promise, in three statements. Profile.
use Rattle.std.specs.Prelude.{ℕ, List, ◌++◌, map}
use Rattle.sqlite.specs.Held.{Held}
use Rattle.sqlite.specs.Store.{Ghosts}
use Rattle.sqlite.specs.Tree.{Trees}
use Rattle.sheet_types.specs.World.{World}
use Rattle.sheet_types.specs.declared.command.Request.{Request}
use Rattle.sheet_laws.specs.Laws.{StoreSight, StoresStandFor}
use Rattle.world_changes.specs.Leaving.{AreClean}
use Rattle.world_members.specs.Members.{AllOpen}
use Rattle.world.specs.Worlds.{StandsFor, RunsOverRegisters}
use Rattle.opening_stores.specs.Strangers.{AreStillOrPackages}
use Rattle.opening_stores.specs.Judged.{AreViewsOf, IsFaultAt}
use Rattle.opening.specs.Recovered.{NoStrayIsBrought}
use Rattle.opening.specs.declared.recovering.Recovered.{Recovered}
use Rattle.opening.specs.declared.recovering.Unopened.{Unopened}
use Rattle.opening_laws.specs.Stores.{AreReopened, AreWithStrays}
use Rattle.promises.specs.Clean.{IsGivenByEach, WhereClean}
use Rattle.promises.specs.Calls.{IsKeptWorld, AreOf}
use Rattle.promises.specs.declared.reopening.Resumed.{Resumed}

module _ {S : Type 0} (g : Ghosts S) where
  -- 5. What opens is certified. A world is opened only where the stores, rightly seen, stand for it: it is a register,
  -- in account, and each item is as the receipt of its coming says, by size and fingerprint.
  abbrev pub OpensCertified : List (Held S) → Recovered S → Type 0
  OpensCertified stores found = AreClean g (map (λ m. m.conn) found.world.members ++ found.strays.items) →
      (views : List StoreSight) × AreViewsOf g stores views × ((w : World) × StoresStandFor views w × IsKeptWorld w
      × StandsFor g found.world w × AllOpen g found.world.members)

  -- Where none is opened, the fault that is told is the first that holds, or memory or a store gave out; and no store
  -- was changed but that a live one which reads as a package may have been brought to the second version.
  abbrev pub RefusesWithCause : List (Held S) → Unopened S → Type 0
  RefusesWithCause stores refused = AreClean g refused.stores.items →
      IsFaultAt g stores refused.fault × AreStillOrPackages g stores refused.stores.items
      × NoStrayIsBrought g stores refused

  -- What a crash left of a world opens as that world, with whatever strays beside it, and the machine goes on from
  -- there. The stores that were not of the world are in hand too: they were read.
  abbrev pub OpensAgain : {H : Type 0} → (List ℕ → H → H → Type 0)
      → (List ℕ → S → H → H → Type 0) → List (Held S)
      → List Request → H → H → Resumed S → Type 0
  OpensAgain Asked Taken stores requests before after resumed =
      (w : World) (contents : List Trees) (again : List (Held S)) → IsKeptWorld w →
      AreOf w contents → AreReopened g again contents → AreWithStrays g w again stores →
      WhereClean g (IsGivenByEach Asked Taken requests before after) resumed.world (AreClean g resumed.strays.items →
      (next : World) × RunsOverRegisters w requests resumed.replies.items next × IsKeptWorld next
      × StandsFor g resumed.world next)
