-- What a register keeps over a stop: what the fourth and the fifth promise come to, put together. Profile.
use Rattle.std.specs.Prelude.{ℕ, List, [], ◌∷◌, ◌++◌}
use Rattle.sqlite.specs.Held.{Held}
use Rattle.sqlite.specs.Store.{Ghosts}
use Rattle.sqlite.specs.Tree.{Trees}
use Rattle.sheet_types.specs.Step.{outcome}
use Rattle.sheet_types.specs.World.{World, new_world}
use Rattle.sheet_types.specs.declared.command.Request.{Request}
use Rattle.sheet_types.specs.declared.frame.Frame.{Frame}
use Rattle.sheet_kept_laws.specs.Laws.{BeginsWith, ComesTo}
use Rattle.world_changes.specs.Leaving.{AreClean, MayBeLeft}
use Rattle.world.specs.Worlds.{StandsFor, RunsOverRegisters, held}
use Rattle.opening_laws.specs.Stores.{AreReopened, AreWithStrays}
use Rattle.promises.specs.Clean.{IsGivenByEach, IsGivenFromNew, WhereClean}
use Rattle.promises.specs.Calls.{AreAnswers}
use Rattle.promises.specs.declared.reopening.Resumed.{Resumed}
use Rattle.promises.specs.declared.surviving.Survived.{Survived}

module _ {S : Type 0} (g : Ghosts S) where
  -- Stores that are opened after a stop: each from what the crash left, and beside them whatever is a stray of the
  -- world before the request and of the one after it.
  pub record AreOpenedFrom (w : World) (q : Request) (contents : List Trees) (stores : List (Held S)) : Type 0 where
    pub again : List (Held S)
    pub opened : AreReopened g again contents
    pub before : AreWithStrays g w again stores
    pub after : AreWithStrays g (outcome w q).1 again stores

  -- A shelf was used before the stop, and one after it.
  module _ {H : Type 0} (Asked : List ℕ → H → H → Type 0) (Taken : List ℕ → S → H → H → Type 0) where
    -- The list was sent again from the request on that was stopped. That one got the reply which it would have got,
    -- unless memory or a store gave out; and it acted once: the world is that of a list in which it stands once.
    abbrev pub GoesOn : List ℕ → Frame → List Request → Request → List Request → World → H → H
        → Resumed S → Type 0
    GoesOn archive frame first q others w before after resumed =
        WhereClean g (IsGivenByEach Asked Taken (q ∷ others) before after) resumed.world (
        AreClean g resumed.strays.items → BeginsWith (outcome w q).0 resumed.replies.items
        × ((next : World) × ComesTo (new_world archive frame) (first ++ q ∷ others) next
        × StandsFor g resumed.world next))

    -- A stop is survived. Where no request before told a fault, whatever a crash left after a request is opened, with
    -- whatever strays beside it, and the list goes on from that request as if nothing had stopped.
    abbrev pub SurvivesStop : List ℕ → Frame → List Request → List Request → List (Held S) → H → H → H
        → H
        → Survived S → Type 0
    SurvivesStop archive frame first [] stores before stop again after survived = Unit {0}
    SurvivesStop archive frame first (q ∷ others) stores before stop again after survived =
        WhereClean g (IsGivenFromNew Asked Taken archive (first ++ q ∷ []) before stop) survived.stopped.world (
        (w : World) × RunsOverRegisters (new_world archive frame) first survived.stopped.replies.items w
        × (AreAnswers survived.stopped.replies.items → AreClean g survived.stopped.world.strays →
        (contents : List Trees) → MayBeLeft g (held g survived.stopped.world) contents →
        AreOpenedFrom w q contents stores → GoesOn archive frame first q others w again after survived.resumed))
