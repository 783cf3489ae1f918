-- What the members that stand for a world tell of it. Profile.
use Rattle.std.specs.Prelude.{◌≡◌, ◌<◌, ℕ, false, true, List, Option, Some, MatchOption, Result, IfOk}
use Rattle.std.specs.Prelude.{length}
use Rattle.std.specs.Prelude.{slice_get, bytes_eq}
use Rattle.std.specs.List.{list_any}
use Rattle.sqlite.specs.Store.{Ghosts}
use Rattle.sheet_types.specs.World.{World, is_live, holdings}
use Rattle.world_members.specs.Members.{AllRest, AllClean, AllOpen, AllStay, AreMembers}
use Rattle.world_members.specs.declared.members.Member.{Member}

module _ {S : Type 0} (g : Ghosts S) where
  -- All members were only read, if at all, and where each disk gave back what was written the answer is true of the
  -- world that they stood for.
  pub record AsksAll {X E : Type 0} (Answer : World → X → Type 0) (old new : List (Member S))
      (r : Result X E) : Type 0 where
    pub rests : AllRest g new
    pub stay : AllStay g old new
    pub stays_open : AllClean g new → IfOk r (λ x. AllOpen g old → AllOpen g new)
    pub told : AllClean g new → IfOk r (λ x. (w : World) (count : ℕ) → AreMembers g old count w → Answer w x)

  -- A member of this package stands here, as the package does among those of the world.
  pub record StandsAt (members : List (Member S)) (uuid : List ℕ) (at : ℕ) : Type 0 where
    pub within : at < length members
    pub member : Member S
    pub place : slice_get members at ≡ Some member
    pub named : member.uuid ≡ uuid
    pub live : (w : World) (count : ℕ) → AreMembers g members count w → is_live w uuid ≡ true
    pub holds : (w : World) (count : ℕ) → AreMembers g members count w
        → slice_get w.packages at ≡ Some (holdings w uuid)

  -- No member is of this package, and so it is not live.
  pub record StandsNowhere (members : List (Member S)) (uuid : List ℕ) : Type 0 where
    pub none : list_any (λ m. bytes_eq m.uuid uuid) members ≡ false
    pub dead : (w : World) (count : ℕ) → AreMembers g members count w → is_live w uuid ≡ false

  -- where the member of a package stands, if it has one
  abbrev pub IsPlaceOf : List (Member S) → List ℕ → Option ℕ → Type 0
  IsPlaceOf members uuid found = MatchOption found (StandsNowhere members uuid) (λ at. StandsAt members uuid at)
