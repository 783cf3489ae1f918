-- What a register keeps: the promises, each a statement that is read alone; the fifth stands in Openings. Profile.
use Rattle.std.specs.Prelude.{◌≡◌, ◌⊎◌, ℕ, List, [], ◌∷◌, ◌++◌, Ok}
use Rattle.sqlite.specs.Store.{Ghosts}
use Rattle.sqlite.specs.Tree.{Trees}
use Rattle.sheet_types.specs.Step.{Run, IsFault, outcome}
use Rattle.sheet_types.specs.World.{World, new_world}
use Rattle.sheet_types.specs.declared.command.Request.{Request}
use Rattle.sheet_types.specs.declared.frame.Frame.{Frame}
use Rattle.sheet_types.specs.declared.receipt.Receipt.{Receipt}
use Rattle.sheet_kept_laws.specs.Laws.{Reply, ComesTo, answered, receipts_given}
use Rattle.world_changes.specs.Leaving.{AreClean, MayBeLeft}
use Rattle.world.specs.Worlds.{StandsFor, RunsOverRegisters, held}
use Rattle.promises.specs.Clean.{IsGivenFromNew, WhereClean}
use Rattle.promises.specs.Calls.{IsKeptWorld, IsToldOf, AreAnswers, AreLeft}
use Rattle.promises.specs.declared.running.Shown.{Shown}
use Rattle.promises.specs.declared.repeating.Repeated.{Repeated}
use Rattle.promises.specs.declared.stopping.Stopped.{Stopped}

-- The shelf was used between the two states that are named last before what was answered.
module _ {S : Type 0} (g : Ghosts S) {H : Type 0} (Asked : List ℕ → H → H → Type 0)
    (Taken : List ℕ → S → H → H → Type 0) where
  -- 1. One world. After any list of requests the replies, and what is told of the packages, are those of the one-world
  -- machine. Its world is a register before the first request and after each one: each thing is in one package, and all
  -- is in account.
  abbrev pub OneWorld : List ℕ → Frame → List Request → List ℕ → H → H → Shown S → Type 0
  OneWorld archive frame requests p before after shown =
      WhereClean g (IsGivenFromNew Asked Taken archive requests before after) shown.world (
      (next : World) × RunsOverRegisters (new_world archive frame) requests shown.replies.items next
      × StandsFor g shown.world next × IsToldOf next p shown.told)

  -- 2. A refusal changes nothing. After any list of requests all is as if those that got no receipt had never been
  -- asked, be it that they were refused, or that memory or a store gave out.
  abbrev pub AsIfUnasked : List ℕ → Frame → List Request → List ℕ → H → H → Shown S → Type 0
  AsIfUnasked archive frame requests p before after shown =
      let replies : List Reply = shown.replies.items in
      WhereClean g (IsGivenFromNew Asked Taken archive requests before after) shown.world (
      (next : World) × Run (new_world archive frame) (answered requests replies) (receipts_given replies) next
      × StandsFor g shown.world next × IsToldOf next p shown.told)

  -- 3. Once, for good. A request that got a receipt gets the same one after whatever requests, unless memory or a store
  -- gives out, and it acted once: the world is that of a list in which it stands once.
  abbrev pub OnceForGood : List ℕ → Frame → List Request → Request → List Request → H → H → Repeated S
      → Type 0
  OnceForGood archive frame first q others before after repeated =
      WhereClean g (IsGivenFromNew Asked Taken archive (first ++ q ∷ (others ++ q ∷ [])) before after)
      repeated.world (
      (receipt : Receipt) → repeated.replies.first ≡ Ok receipt →
      ((repeated.replies.again ≡ Ok receipt) ⊎ IsFault repeated.replies.again)
      × ((next : World) × ComesTo (new_world archive frame) (first ++ q ∷ others) next
      × StandsFor g repeated.world next))

  -- 4. A stop leaves a whole world. Where no request before told a fault, whatever a crash leaves after a request are
  -- the packages of the world that it made, if it got a receipt, or of the world before, if it was refused, or of one
  -- of the two, where a store failed; and each of the two is a register.
  abbrev pub StopsWhole : List ℕ → Frame → List Request → Request → H → H → Stopped S → Type 0
  StopsWhole archive frame first q before after stopped =
      WhereClean g (IsGivenFromNew Asked Taken archive (first ++ q ∷ []) before after) stopped.world (
      (w : World) × RunsOverRegisters (new_world archive frame) first stopped.replies.items w
      × IsKeptWorld w × IsKeptWorld (outcome w q).1 × (AreAnswers stopped.replies.items
      → AreClean g stopped.world.strays →
      (contents : List Trees) → MayBeLeft g (held g stopped.world) contents →
      AreLeft w q stopped.last stopped.world.has_failed contents))
