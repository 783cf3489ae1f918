-- What the calls of which a promise is made come to, each by itself. Profile.
use Rattle.std.specs.Prelude.{◌≡◌, ◌⊎◌, ℕ, true, false, Bool, List, [], ◌∷◌, ◌++◌, map}
use Rattle.std.specs.Prelude.{option_map, Ok, Err}
use Rattle.std.specs.List.{AllByRecursion}
use Rattle.sqlite.specs.Store.{Ghosts}
use Rattle.sqlite.specs.Tree.{Trees}
use Rattle.sheet_types.specs.Answers.{package_sights, sums_of, holdings_answer}
use Rattle.sheet_types.specs.Register.{IsRegister}
use Rattle.sheet_types.specs.Step.{Step, Run, IsFault, outcome}
use Rattle.sheet_types.specs.World.{World, new_world}
use Rattle.sheet_types.specs.declared.command.Request.{Request}
use Rattle.sheet_types.specs.declared.frame.Frame.{Frame}
use Rattle.sheet_kept_laws.specs.Laws.{Reply}
use Rattle.opening_laws_model.specs.Timely.{IsTimely}
use Rattle.world_changes.specs.Leaving.{AreClean, MayBeLeft, StandsAmong}
use Rattle.world_members.specs.Members.{AllClean, AllOpen}
use Rattle.world.specs.Reading.{sight_of}
use Rattle.world.specs.Worlds.{Seen, StandsFor, RunsOverRegisters, held}
use Rattle.promises.specs.Clean.{IsGivenBy, IsGivenByEach, IsGivenFromNew, HaveCleanDisks, WhereClean}
use Rattle.promises.specs.declared.running.Begun.{Begun}
use Rattle.promises.specs.declared.running.Told.{Told}
use Rattle.promises.specs.declared.repeating.Replies.{Replies}

-- a world that can be opened: a register, each receipt of it with a moment
abbrev pub IsKeptWorld : World → Type 0
IsKeptWorld w = IsRegister w × IsTimely w

-- what is told is what the model answers of this world, and of this package of it
pub record IsToldOf (w : World) (p : List ℕ) (told : Told) : Type 0 where
  pub packages : map sight_of told.packages.items ≡ package_sights w
  pub sums : told.sums ≡ sums_of w p
  pub holdings : option_map (λ held. (held.0.items, held.1.items)) told.holdings ≡ holdings_answer w p

-- no reply tells want of memory or a store that failed
abbrev pub AreAnswers : List Reply → Type 0
AreAnswers replies = AllByRecursion (λ reply. ¬ IsFault reply) replies

-- of some contents each package of the world is read from one, and the rest are beside it
abbrev pub AreOf : World → List Trees → Type 0
AreOf w contents = StandsAmong w.frame w.packages contents

-- Contents that a crash left after a reply are those of a whole world: after a receipt the one that the request makes,
-- after a refusal, or a fault that leaves the world usable, the one before, else one of the two.
abbrev pub AreLeft : World → Request → Reply → Bool → List Trees → Type 0
AreLeft w q (Ok receipt) failed contents = AreOf (outcome w q).1 contents
AreLeft w q (Err why) false contents = AreOf w contents
AreLeft w q (Err why) true contents = AreOf w contents ⊎ AreOf (outcome w q).1 contents

module _ {S : Type 0} (g : Ghosts S) where
  -- a new world, that can be used, of open stores
  pub record IsNew (archive : List ℕ) (frame : Frame) (seen : Seen S) : Type 0 where
    pub stands : AllClean g seen.members → StandsFor g seen (new_world archive frame)
    pub opens : AllClean g seen.members → AllOpen g seen.members
    pub usable : seen.has_failed ≡ false

  -- It stands for the world that the requests lead to from a new one; it can be used, and its stores are open, where no
  -- reply told a fault.
  pub record StandsAfter (archive : List ℕ) (frame : Frame) (requests : List Request) (replies : List Reply)
      (seen : Seen S) : Type 0 where
    pub world : World
    pub run : RunsOverRegisters (new_world archive frame) requests replies world
    pub stands : StandsFor g seen world
    pub opens : AreAnswers replies → AllOpen g seen.members
    pub usable : AreAnswers replies → seen.has_failed ≡ false

  -- the world was only read, and what is told is the model's answer
  pub record Looks (p : List ℕ) (old new : Seen S) (told : Told) : Type 0 where
    pub strays : new.strays ≡ old.strays
    pub clean : AllClean g new.members → AllClean g old.members
    pub answers : AllClean g new.members → (w : World) → StandsFor g old w → StandsFor g new w
        × IsToldOf w p told

  -- a request, others, and the request again, each as the one-world machine has it
  pub record RunsTwice (w : World) (q : Request) (others : List Request) (replies : Replies) (new : Seen S) :
      Type 0 where
    pub given : World
    pub first : Step w q replies.first given
    pub between : List Reply
    pub last : World
    pub run : Run given others between last
    pub next : World
    pub again : Step last q replies.again next
    pub stands : StandsFor g new next

  -- With a shelf between these states.
  module _ {H : Type 0} (Asked : List ℕ → H → H → Type 0) (Taken : List ℕ → S → H → H → Type 0) where
    abbrev pub IsBegun : List ℕ → Frame → List Request → H → H → Begun S → Type 0
    IsBegun archive frame requests before after begun =
        WhereClean g (IsGivenFromNew Asked Taken archive requests before after) begun.world
        (StandsAfter archive frame requests begun.replies.items begun.world)

    -- From any world that it stood for.
    abbrev pub Repeats : Request → List Request → Seen S → Seen S → H → H → Replies → Type 0
    Repeats q others old new before after replies =
        WhereClean g (IsGivenByEach Asked Taken (q ∷ (others ++ q ∷ [])) before after) new
        (AllClean g old.members × ((w : World) → StandsFor g old w → RunsTwice w q others replies new))

    -- One request: a step of the machine, and what a crash leaves of stores that were open, of a world that could be
    -- used.
    pub record Asks (q : Request) (old new : Seen S) (before after : H) (reply : Reply) : Type 0 where
      pub stores : List S
      pub given : IsGivenBy Asked Taken q before after stores
      pub clean : AllClean g new.members → HaveCleanDisks g stores → AllClean g old.members
      pub step : AllClean g new.members → HaveCleanDisks g stores → (w : World) → StandsFor g old w →
          (next : World) × Step w q reply next × StandsFor g new next
      pub left : AreClean g (held g new) → HaveCleanDisks g stores → (w : World) → StandsFor g old w →
          AllOpen g old.members → old.has_failed ≡ false → (contents : List Trees)
          → MayBeLeft g (held g new) contents →
          AreLeft w q reply new.has_failed contents
