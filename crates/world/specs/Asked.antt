-- What a world asks a shelf for, and what it gives back to it. Profile.
use Rattle.std.specs.Prelude.{◌≡◌, ◌⊎◌, ℕ, ⊤, true, false, List, [], ◌∷◌, ◌++◌, Option}
use Rattle.std.specs.Prelude.{Some, None, Result, Ok, Err}
use Rattle.std.specs.Prelude.{slice_get, bytes_eq}
use Rattle.std.specs.List.{AllByRecursion}
use Rattle.sqlite.specs.Held.{Held, state}
use Rattle.sqlite.specs.Store.{Ghosts}
use Rattle.sqlite.specs.Tree.{Trees}
use Rattle.sqlite_disk.specs.Disk.{MoreFaults}
use Rattle.sheet_types.specs.Step.{IsFault, outcome}
use Rattle.sheet_types.specs.World.{World}
use Rattle.sheet_types.specs.declared.command.Command.{Command}
use Rattle.sheet_types.specs.declared.command.Request.{Request}
use Rattle.sheet_types.specs.declared.frame.Frame.{Frame}
use Rattle.sheet_types.specs.declared.receipt.Receipt.{Receipt}
use Rattle.sheet_types.specs.declared.refusal.Refusal.{Refusal}
use Rattle.store_sql.specs.Staying.{Stays}
use Rattle.world_changes.specs.Carries.{OfEachSeen}
pub use Rattle.world_changes.specs.Giving.{GivenBack}
use Rattle.world_changes.specs.Giving.{IsUnlent, LeavesBlankOr}
use Rattle.world_changes.specs.Leaving.{AreClean, IsChildBeside}
pub use Rattle.world_changes.specs.Writing.{child_returned}
use Rattle.world_decisions.specs.Deciding.{child_asked}
use Rattle.world_loans.specs.ServeFaults.{IsLastingFault}
use Rattle.world_loans.specs.declared.loans.Lending.{Lending}
use Rattle.world_loans.specs.declared.loans.ServeFault.{ServeFault}
use Rattle.world_members.specs.Members.{AllClean, AllOpen}
use Rattle.world_members.specs.declared.members.Member.{Member}
use Rattle.world.specs.Worlds.{AddsNone, Seen, StandsFor, IsStep, IsRun}

-- no package of the world has this UUID
abbrev pub IsNoPackage : World → List ℕ → Type 0
IsNoPackage w uuid = AllByRecursion (λ p. bytes_eq p.uuid uuid ≡ false) w.packages

-- the package of the member at this place has this UUID
abbrev pub HasUuidAt : {S : Type 0} → List (Member S) → ℕ → List ℕ → Type 0
HasUuidAt {S} members at uuid = (member : Member S) × (slice_get members at ≡ Some member) × (uuid ≡ member.uuid)

-- It was given back none, or one store, as that of this package.
abbrev pub MayReturn : {S H : Type 0} → (List ℕ → S → H → H → Type 0) → List ℕ → H → H → Type 0
MayReturn {S} Takes uuid before after = (after ≡ before) ⊎ ((store : S) × Takes uuid store before after)

-- Between these two states a shelf was asked for nothing, or once for the store of this package, of which this holds;
-- and then it was given back none, or one as that package's.
abbrev pub AsksFor : {S H : Type 0} → (List ℕ → H → H → Type 0) → (List ℕ → S → H → H → Type 0)
    → Option (List ℕ)
    → (List ℕ → Type 0) → H → H → Type 0
AsksFor Asks Takes None Fact before after = after ≡ before
AsksFor {S} {H} Asks Takes (Some child) Fact before after = (after ≡ before)
    ⊎ ((mid : H) × Asks child before mid × Fact child × MayReturn Takes child mid after)

-- It was given back one store, as that of the package that this command takes home.
abbrev pub TakesHomeOf : {S H : Type 0} → (List ℕ → S → H → H → Type 0) → Command → H → H → Type 0
TakesHomeOf {S} Takes command before after = (uuid : List ℕ) × (child_returned command ≡ Some uuid) × (store : S)
    × Takes uuid store before after

-- It was asked for what a request asks to be made, and may have got that back; or it was given back what the request
-- takes home; or neither.
abbrev pub IsUsedFor : {S H : Type 0} → (List ℕ → H → H → Type 0)
    → (List ℕ → S → H → H → Type 0) → Request → H → H
    → Type 0
IsUsedFor Asks Takes q before after = AsksFor Asks Takes (child_asked q.command) (λ child. ⊤) before after
    ⊎ TakesHomeOf Takes q.command before after

-- The same of a list of requests, in turn.
abbrev pub IsUsedForEach : {S H : Type 0} → (List ℕ → H → H → Type 0)
    → (List ℕ → S → H → H → Type 0) → List Request → H
    → H → Type 0
IsUsedForEach {S} {H} Asks Takes [] before after = after ≡ before
IsUsedForEach {S} {H} Asks Takes (q ∷ qs) before after = (between : H) × IsUsedFor Asks Takes q before between
    × IsUsedForEach Asks Takes qs between after

module _ {S : Type 0} (g : Ghosts S) where
  -- The package is of no world that it stood for, where each disk has given back what was written.
  abbrev pub IsNewTo : Seen S → Seen S → List ℕ → Type 0
  IsNewTo old new child = AllClean g new.members → (w : World) → StandsFor g old w → IsNoPackage w child

  -- It is of no world that the request makes, where they have, those of the connections that left it too.
  abbrev pub IsNoMoreOf : Request → Seen S → Seen S → List (Held S) → List ℕ → Type 0
  IsNoMoreOf q old new gone uuid = AllClean g new.members → AreClean g gone → (w : World) → StandsFor g old w
      → IsNoPackage (outcome w q).1 uuid

  -- The request takes it home, and it is of no world after.
  abbrev pub IsHomeBy : Request → Seen S → Seen S → List (Held S) → List ℕ → Type 0
  IsHomeBy q old new gone uuid = (child_returned q.command ≡ Some uuid) × IsNoMoreOf q old new gone uuid

  module _ {H : Type 0} (Takes : List ℕ → S → H → H → Type 0) where
    -- It was given back that of this connection, as that of the package of one of these members, of which this holds.
    -- The connection is the member's, and its store was only read.
    abbrev pub ComesHome : List (Member S) → (List ℕ → Type 0) → Held S → H → H → Type 0
    ComesHome members Fact conn before after = (at : ℕ) × (member : Member S)
        × (slice_get members at ≡ Some member)
        × Stays (state g member.conn) (state g conn) × GivenBack g Takes member.uuid conn before after
        × Fact member.uuid

    -- It was given back those of these connections: of none, or of one.
    abbrev pub ComeHome : List (Member S) → (List ℕ → Type 0) → List (Held S) → H → H → Type 0
    ComeHome members Fact [] before after = after ≡ before
    ComeHome members Fact (conn ∷ others) before after = (others ≡ []) × ComesHome members Fact conn before after

  module _ {H : Type 0} (Asks : List ℕ → H → H → Type 0) (Takes : List ℕ → S → H → H → Type 0) where
    -- It was asked as above, where no member left; or it was given back the store that came home, and asked for
    -- nothing.
    abbrev pub UsesFor : List (Member S) → Option (List ℕ) → (List ℕ → Type 0) → (List ℕ → Type 0)
        → List (Held S)
        → H → H → Type 0
    UsesFor members child New NoMore [] before after = AsksFor Asks Takes child New before after
    UsesFor members child New NoMore (store ∷ others) before after =
        ComeHome Takes members NoMore (store ∷ others) before after

    -- So it was used in the turn of a request, among members.
    abbrev pub ServesWith : Frame → Request → List (Member S) → List (Member S) → List (List ℕ) → ℕ
        → List (Held S)
        → H → H → Type 0
    ServesWith f q old new known count gone before after = UsesFor old (child_asked q.command)
        (λ child. AllClean g new → OfEachSeen g f known old count (λ w. IsNoPackage w child))
        (λ uuid. (child_returned q.command ≡ Some uuid) × (AllClean g new → AreClean g gone
        → OfEachSeen g f known old count (λ w. IsNoPackage (outcome w q).1 uuid))) gone before after

    module _ (Fails : H → ℕ) where
      -- It had no store for this package, which was counted. Or a store was given back to it as that package's, and
      -- whatever a crash leaves of that is blank or beside. Or it was given back none, and this holds: then the store
      -- is the only stray.
      abbrev pub HasBack : List ℕ → (Trees → Type 0) → Type 0 → List (Held S) → H → H → H → Type 0
      HasBack child Beside Failed strays before mid after =
          ((after ≡ mid) × MoreFaults (Fails before) (Fails mid))
          ⊎ (((conn : Held S) × LeavesBlankOr g Beside conn × GivenBack g Takes child conn mid after)
          ⊎ ((after ≡ mid) × Failed × ((stray : Held S) × (strays ≡ stray ∷ []))))

      -- It was asked for the store of this package at most once, and what became of that is told above.
      abbrev pub GivesBack : List ℕ → (Trees → Type 0) → Type 0 → List (Held S) → H → H → Type 0
      GivesBack child Beside Failed strays before after = (after ≡ before)
          ⊎ ((mid : H) × Asks child before mid × HasBack child Beside Failed strays before mid after)

      -- So it was used in a split that was to be carried out.
      abbrev pub UsesChild : Frame → Lending → List (Member S) → List (Member S) → List (Held S)
          → Result Receipt ServeFault → H → H → Type 0
      UsesChild f due old new strays (Ok receipt) before after = Asks due.child before after
      UsesChild f due old new strays (Err why) before after =
          GivesBack due.child (IsUnlent g f due old new) (IsLastingFault why) strays before after

      -- And so where a request was dealt with. After a receipt the store is that of a member.
      abbrev pub ServesChild : Option (List ℕ) → (List ℕ → Trees → Type 0) → List (Held S)
          → Result (Result Receipt Refusal) ServeFault → H → H → Type 0
      ServesChild None Beside strays r before after = ⊤
      ServesChild (Some child) Beside strays (Ok (Ok receipt)) before after = (after ≡ before)
          ⊎ Asks child before after
      ServesChild (Some child) Beside strays (Ok (Err why)) before after = after ≡ before
      ServesChild (Some child) Beside strays (Err why) before after =
          GivesBack child (Beside child) (IsLastingFault why) strays before after

      -- Where a split asks for a child, this became of the store for it: after a receipt it is that
      -- of a member; else the shelf was given a store as that of the child, and a crash leaves
      -- nothing in that or what is beside the world; or a store is the stray of a world that has
      -- failed.
      abbrev pub SettlesChild : Option (List ℕ) → Seen S → Result Receipt Refusal → Seen S → H → H
          → Type 0
      SettlesChild None old reply new before after = ⊤
      SettlesChild (Some child) old (Ok receipt) new before after = (after ≡ before) ⊎ Asks child before after
      SettlesChild (Some child) old (Err why) new before after = GivesBack child
          (λ trees. AllClean g new.members → (w : World) → StandsFor g old w → AllOpen g old.members
          → IsChildBeside w.frame w.packages child trees) (new.has_failed ≡ true) new.strays before after

      -- One step, with what the shelf was asked for and given back. So who keeps what the shelf was given has each
      -- connection that left the world.
      pub record IsStepWith (q : Request) (old : Seen S) (reply : Result Receipt Refusal) (new : Seen S)
          (before after : H) : Type 0 where
        pub step : IsStep g q old reply new
        pub uses : UsesFor old.members (child_asked q.command) (IsNewTo old new) (IsHomeBy q old new step.gone)
            step.gone before after
        -- and what became of the store of a child
        pub child : SettlesChild (child_asked q.command) old reply new before after
        -- After a refusal, and after a request that came again, it was not used.
        pub unused : ¬ IsFault reply → AddsNone reply old.count new.count → after ≡ before

      -- One step after the other, in which these connections left the world.
      abbrev pub AreStepsWith : List Request → Seen S → List (Result Receipt Refusal) → Seen S → List (Held S)
          → H → H → Type 0
      AreStepsWith [] old [] new gone before after = (new ≡ old) × (gone ≡ []) × (after ≡ before)
      AreStepsWith (q ∷ qs) old (reply ∷ replies) new gone before after = (mid : Seen S) × (between : H)
          × (it : IsStepWith q old reply mid before between) × (later : List (Held S))
          × (gone ≡ it.step.gone ++ later)
          × AreStepsWith qs mid replies new later between after
      AreStepsWith [] old (reply ∷ replies) new gone before after = ⊥
      AreStepsWith (q ∷ qs) old [] new gone before after = ⊥

      -- A run, with a shelf that had failed so often before and after, and what it was asked for and given back.
      pub record IsRunWith (qs : List Request) (old : Seen S) (replies : List (Result Receipt Refusal)) (new : Seen S)
          (failed fails : ℕ) (before after : H) : Type 0 where
        pub run : IsRun g qs old replies new failed fails
        pub uses : AreStepsWith qs old replies new run.gone before after
