-- Of stores that were looked at, and of which some may have been brought, only those of packages that are live may have
-- changed. Profile.
use Rattle.std.specs.Prelude.{◌≡◌, ◌⊎◌, ⊤, false, Bool, List, [], ◌∷◌}
use Rattle.std.specs.List.{AllZip}
use Rattle.sqlite.specs.Held.{Held, state}
use Rattle.sqlite.specs.Store.{Ghosts}
use Rattle.sheet_types.specs.World.{World, Package}
use Rattle.sheet_types.specs.declared.frame.Frame.{Frame}
use Rattle.sheet_laws.specs.Laws.{StoreSight, StoresStandFor}
use Rattle.package_v1.specs.FirstVersion.{ReadsAtOne}
use Rattle.opening_verdict.specs.Views.{is_live_view}
use Rattle.opening_stores.specs.Judged.{AreViewsOf}
use Rattle.opening_stores.specs.Stores.{StaysStore}

module _ {S : Type 0} (g : Ghosts S) where
  -- the store reads as a package, at one version or at the other
  abbrev pub ReadsAsSome : Held S → Type 0
  ReadsAsSome h = (f : Frame) × (p : Package) × ReadsAtOne f p (state g h).now

  -- it is the store that it was, or was only read, unless it read as a package
  abbrev pub IsStillOrPackage : Held S → Held S → Type 0
  IsStillOrPackage old new = (new ≡ old) ⊎ (StaysStore g old new ⊎ ReadsAsSome old)

  -- each, in turn
  abbrev pub AreStillOrPackages : List (Held S) → List (Held S) → Type 0
  AreStillOrPackages = AllZip IsStillOrPackage

  -- each whose view is not live was only read, if at all
  abbrev pub AreOthersRead : (StoreSight → Bool) → List (Held S) → List (Held S) → List StoreSight → Type 0
  AreOthersRead live [] [] [] = ⊤
  AreOthersRead live [] [] (v ∷ views) = ⊥
  AreOthersRead live [] (b ∷ new) views = ⊥
  AreOthersRead live (a ∷ old) [] views = ⊥
  AreOthersRead live (a ∷ old) (b ∷ new) [] = ⊥
  AreOthersRead live (a ∷ old) (b ∷ new) (v ∷ views) =
      (live v ≡ false → StaysStore g a b) × AreOthersRead live old new views

  -- The stores stand for a world, by right views of them, and the strays, whose views are not live, were only read:
  -- whatever gave out, none of them was brought.
  pub record AreStraysRead (old new : List (Held S)) : Type 0 where
    pub views : List StoreSight
    pub right : AreViewsOf g old views
    pub world : World
    pub stand : StoresStandFor views world
    pub strays : AreOthersRead (is_live_view views) old new views
