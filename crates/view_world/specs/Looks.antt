-- Looks at a world that ends with them: its stores are handed on, only read. Profile.
use Rattle.std.specs.Prelude.{◌≡◌, ◌⊎◌, List, Result, IfOk, OnOk}
use Rattle.sqlite.specs.Held.{Held}
use Rattle.sqlite.specs.Store.{Ghosts}
use Rattle.sheet_types.specs.World.{World, Package}
use Rattle.sheet_types.specs.declared.frame.Frame.{Frame}
use Rattle.view_history.specs.Stores.{AreClean, AreOnlyRead, AreRead}
use Rattle.world_members.specs.Members.{AllClean, AllOpen}
use Rattle.world.specs.Worlds.{IsRead, Seen, StandsFor, held}

module _ {S : Type 0} (g : Ghosts S) where
  -- The world is as it was, or it was only read.
  abbrev pub IsLookedAt : Seen S → Seen S → Type 0
  IsLookedAt old new = (new ≡ old) ⊎ IsRead g old new

  -- An answer leaves each store open that was, where each disk has given back what was written.
  abbrev pub LeavesOpen : {X E : Type 0} → Seen S → Seen S → Result X E → Type 0
  LeavesOpen old new r = AllClean g new.members → OnOk r (AllOpen g old.members → AllOpen g new.members)

  -- the stores are as they were, or each was only read
  abbrev pub IsUntouched : List (Held S) → List (Held S) → Type 0
  IsUntouched old new = (new ≡ old) ⊎ AreOnlyRead g old new

  -- Stores were asked, if at all, and where each disk has given back what was written the answer is true of the
  -- packages that they are of.
  pub record Asks {X E : Type 0} (Answer : List Package → X → Type 0) (old new : List (Held S))
      (r : Result X E) : Type 0 where
    pub read : IsUntouched old new
    pub told : AreClean g new → IfOk r (λ x. (f : Frame) (packages : List Package) → AreRead g f old packages
        → Answer packages x)

  -- The stores of a world were only read, if at all, and where each disk has given back what was written the answer
  -- is true of each world that it stood for.
  pub record LooksInto {X E : Type 0} (Answer : World → X → Type 0) (seen : Seen S) (stores : List (Held S))
      (r : Result X E) : Type 0 where
    pub read : IsUntouched (held g seen) stores
    pub told : AreClean g stores → IfOk r (λ x. (w : World) → StandsFor g seen w → Answer w x)
