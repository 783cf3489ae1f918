-- What stores that are handed in come to: a world, or a fault. Profile.
use Rattle.std.specs.Prelude.{◌≡◌, ◌⊎◌, ℕ, false, List, ◌++◌, map, IsPermutation, IsTrue, Contains}
use Rattle.std.specs.List.{AllByRecursion}
use Rattle.sqlite.specs.Held.{Held, state}
use Rattle.sqlite.specs.Store.{Ghosts}
use Rattle.sheet_types.specs.World.{World}
use Rattle.sheet_types.specs.declared.frame.Frame.{Frame}
use Rattle.sheet_laws.specs.Laws.{StoreSight, StoresStandFor}
use Rattle.opening_v1.specs.Either.{IsViewAtEither}
use Rattle.opening_verdict.specs.Views.{is_live_view}
use Rattle.opening_verdict.specs.declared.verdict.Verdict.{Verdict}
use Rattle.world_changes.specs.Leaving.{AreClean, AreAtRest}
use Rattle.world_members.specs.Members.{AllOpen}
use Rattle.world.specs.Worlds.{Seen, StandsFor, seen_of}
use Rattle.sheet_types.specs.Ordered.{arranged}
use Rattle.opening_stores.specs.Sharing.{member_key, members_of}
use Rattle.opening_stores.specs.Brought.{MayAllBeBrought}
use Rattle.opening_stores.specs.Strangers.{AreStillOrPackages, AreStraysRead}
use Rattle.opening_stores.specs.Judged.{AreViewsOf, IsFaultAt, IsWant}
use Rattle.opening_stores.specs.Stores.{AreOnlyRead, StaysStore}
use Rattle.opening.specs.declared.recovering.Recovered.{Recovered}
use Rattle.opening.specs.declared.recovering.Unopened.{Unopened}

-- the world's value over the live stores, in the order of their UUIDs
abbrev pub seen_of_stores : {S : Type 0} → Frame → List (Held S) → Verdict → List (List ℕ) → Seen S
seen_of_stores frame stores verdict known =
    seen_of frame (arranged member_key (members_of stores verdict.kept.items)) verdict.count known

module _ {S : Type 0} (g : Ghosts S) where
  -- there is a world that the value stands for
  abbrev pub StandsForSome : Seen S → Type 0
  StandsForSome seen = (w : World) × StandsFor g seen w

  -- one of these views is right of the store, and is not live
  abbrev pub IsApart : List StoreSight → Held S → Type 0
  IsApart views h =
      (v : StoreSight) × Contains views v × IsTrue (state g h).is_open × IsViewAtEither (state g h).now v
      × (is_live_view views v ≡ false)

  -- The stores stand for a world, and so does what was opened; what is handed out beside it is not live.
  pub record IsOpened (stores : List (Held S)) (found : Recovered S) : Type 0 where
    pub views : List StoreSight
    pub right : AreViewsOf g stores views
    pub world : World
    pub stand : StoresStandFor views world
    pub is : StandsFor g found.world world
    pub apart : AllByRecursion (IsApart views) found.strays.items

  -- it is one of these stores, which was only read, if at all
  abbrev pub IsReadOf : List (Held S) → Held S → Type 0
  IsReadOf stores h = (was : Held S) × Contains stores was × StaysStore g was h

  -- Each store is now as it was, or was brought to the second version; each is that of a member, or a stray, which was
  -- only read. The world can be used.
  pub record IsRecovered (stores : List (Held S)) (found : Recovered S) : Type 0 where
    pub now : List (Held S)
    pub brought : MayAllBeBrought g stores now
    pub kept : IsPermutation now (map (λ m. m.conn) found.world.members ++ found.strays.items)
    pub strays_read : AllByRecursion (IsReadOf stores) found.strays.items
    pub stray_rests : AreAtRest g found.strays.items
    pub opened : AreClean g now → IsOpened stores found
    pub opens : AreClean g now → AllOpen g found.world.members
    pub usable : found.world.has_failed ≡ false

  -- the stores are untouched
  abbrev pub AreSame : List (Held S) → Unopened S → Type 0
  AreSame stores refused = refused.stores.items ≡ stores

  -- All stores were only read, if at all; or they stand for a world, and the strays beside it were only read.
  abbrev pub NoStrayIsBrought : List (Held S) → Unopened S → Type 0
  NoStrayIsBrought stores refused =
      AreSame stores refused ⊎ (AreOnlyRead g stores refused.stores.items
      ⊎ AreStraysRead g stores refused.stores.items)

  -- All stores are handed back in their order, untouched, or each as it was or brought; for a fault
  -- of the nine they were only read, if at all.
  pub record IsUnopened (stores : List (Held S)) (refused : Unopened S) : Type 0 where
    pub brought : AreSame stores refused ⊎ MayAllBeBrought g stores refused.stores.items
    pub only_read : IsWant refused.fault ⊎ AreOnlyRead g stores refused.stores.items
    -- Whatever the fault is, want of memory and of a store among them, a store that reads as no package was only read.
    pub others_read : AreClean g refused.stores.items → AreStillOrPackages g stores refused.stores.items
    -- And no stray was brought.
    pub strays_read : AreClean g refused.stores.items → NoStrayIsBrought stores refused
    pub fault : AreClean g refused.stores.items → IsFaultAt g stores refused.fault
