-- What a clause sees of a value of `World`, and the world of the model that it stands for. Profile.
use Rattle.std.specs.Prelude.{◌≡◌, ◌⊎◌, ◌≤◌, ℕ, ℤ, Bool, true, false, List, [], ◌∷◌}
use Rattle.std.specs.Prelude.{◌++◌, map, Option, None, Result}
use Rattle.std.specs.Prelude.{Ok, Err, IsTrue, IfOk, IsErr, refl}
use Rattle.std.specs.List.{AllByRecursion}
use Rattle.std.specs.Coded.{Coded, code_by, coded×, coded_bool, coded_list, coded_option, coded_ℕ, coded_ℤ}
use Rattle.sqlite.specs.Store.{Ghosts}
use Rattle.sqlite.specs.Held.{Held, held_code, state}
use Rattle.sheet_types.specs.Matrix.{is_good_frame}
use Rattle.sheet_types.specs.Refuse.{greatest_receipts}
use Rattle.sheet_types.specs.Register.{IsRegister}
use Rattle.sheet_types.specs.Step.{Step, Run, IsFault, outcome}
use Rattle.sheet_types.specs.World.{World}
use Rattle.sheet_types.specs.declared.command.Request.{Request}
use Rattle.sheet_types.specs.declared.frame.Frame.{Frame}
use Rattle.sheet_types.specs.declared.receipt.Receipt.{Receipt}
use Rattle.sheet_types.specs.declared.receipt.Sums.{Sums}
use Rattle.sheet_types.specs.declared.refusal.Refusal.{Refusal}
use Rattle.sheet_types.specs.declared.refusal.Refusal.TheVariants.{StoreFault}
use Rattle.sqlite_disk.specs.Disk.{MoreFaults}
use Rattle.world_known.specs.Known.{Knows}
use Rattle.store_sql.specs.Stores.{EachLeaves}
use Rattle.world_changes.specs.Dating.{AreDated, packages_changed}
use Rattle.world_changes.specs.Leaving.{AllSurvive, AreClean, AreAtRest, AreBeside, LeavesOneOf}
use Rattle.world_changes.specs.Writing.{WritesTwoAtMost, child_returned}
use Rattle.world_decisions.specs.Deciding.{child_asked}
use Rattle.world_members.specs.Turning.{LeftAs}
use Rattle.world_members.specs.Members.{AllOpen, AllRest, AllClean, AllStay, AreMembers}
use Rattle.world_members.specs.declared.members.Member.{Member}
use Rattle.world.specs.Dates.{AddsReceipt}

-- the frame, the members in the order of their UUIDs, the number of all receipts, whether the world has failed, the
-- stores of children that a split which failed left, and the UUIDs that are known
pub record Seen (S : Type 0) : Type 0 where
  pub frame : Frame
  pub members : List (Member S)
  pub count : ℕ
  pub has_failed : Bool
  pub strays : List (Held S)
  pub known : List (List ℕ)

-- a world that can be used, of these members
abbrev pub seen_of : {S : Type 0} → Frame → List (Member S) → ℕ → List (List ℕ) → Seen S
seen_of f members count known = record {
  frame = f;
  members = members;
  count = count;
  has_failed = false;
  strays = [];
  known = known;
}

-- ---- as values that a model may have

abbrev Eleven : Type 0
Eleven = ℤ × (ℤ × (ℤ × (ℤ × (ℤ × (ℤ × (ℤ × (ℤ × (ℤ × (ℤ × ℤ)))))))))

abbrev frame_code : Coded Frame
frame_code =
    code_by Eleven
    (coded× coded_ℤ (coded× coded_ℤ (coded× coded_ℤ (coded× coded_ℤ
    (coded× coded_ℤ (coded× coded_ℤ (coded× coded_ℤ
    (coded× coded_ℤ (coded× coded_ℤ (coded× coded_ℤ coded_ℤ))))))))))
    (λ f. (
      f.srs_id,
      (
        f.min_x,
        (
          f.min_y,
          (
            f.max_x,
            (
              f.max_y,
              (
                f.tile_width,
                (
                  f.tile_height,
                  (f.first_zoom, (f.levels, (f.matrix_width, f.matrix_height))),
                ),
              ),
            ),
          ),
        ),
      ),
    ))
    (λ p. record {
      srs_id = p.0;
      min_x = p.1.0;
      min_y = p.1.1.0;
      max_x = p.1.1.1.0;
      max_y = p.1.1.1.1.0;
      tile_width = p.1.1.1.1.1.0;
      tile_height = p.1.1.1.1.1.1.0;
      first_zoom = p.1.1.1.1.1.1.1.0;
      levels = p.1.1.1.1.1.1.1.1.0;
      matrix_width = p.1.1.1.1.1.1.1.1.1.0;
      matrix_height = p.1.1.1.1.1.1.1.1.1.1;
    })
    (λ _. refl)

abbrev sums_code : Coded Sums
sums_code =
    code_by (ℕ × (ℕ × (ℕ × (ℕ × ℕ)))) (coded× coded_ℕ (coded× coded_ℕ
    (coded× coded_ℕ (coded× coded_ℕ coded_ℕ))))
    (λ s. (s.tiles, (s.media, (s.rows, (s.links, s.bytes)))))
    (λ p. record { tiles = p.0; media = p.1.0; rows = p.1.1.0; links = p.1.1.1.0; bytes = p.1.1.1.1 })
    (λ _. refl)

-- the fields of a member in turn
abbrev MemberParts : Type 0 → Type 0
MemberParts S = Held S × (List ℕ × (Option (List ℕ) × (ℕ × (ℕ × (Sums × ℕ)))))

abbrev member_parts : {S : Type 0} → Coded S → Coded (MemberParts S)
member_parts store =
    coded× (held_code store) (coded× (coded_list coded_ℕ) (coded× (coded_option (coded_list coded_ℕ))
    (coded× coded_ℕ (coded× coded_ℕ (coded× sums_code coded_ℕ)))))

abbrev member_code : {S : Type 0} → Coded S → Coded (Member S)
member_code {S} store =
    code_by (MemberParts S) (member_parts store)
    (λ m. (m.conn, (m.uuid, (m.parent, (m.depth, (m.loan, (m.sums, m.ticket)))))))
    (λ p. record {
      conn = p.0;
      uuid = p.1.0;
      parent = p.1.1.0;
      depth = p.1.1.1.0;
      loan = p.1.1.1.1.0;
      sums = p.1.1.1.1.1.0;
      ticket = p.1.1.1.1.1.1;
    })
    (λ _. refl)

-- and those of what is seen
abbrev SeenParts : Type 0 → Type 0
SeenParts S = Frame × (List (Member S) × (ℕ × (Bool × (List (Held S) × List (List ℕ)))))

abbrev seen_parts : {S : Type 0} → Coded S → Coded (SeenParts S)
seen_parts store =
    coded× frame_code (coded× (coded_list (member_code store)) (coded× coded_ℕ
    (coded× coded_bool (coded× (coded_list (held_code store)) (coded_list (coded_list coded_ℕ))))))

abbrev pub seen_code : {S : Type 0} → Coded S → Coded (Seen S)
seen_code {S} store =
    code_by (SeenParts S) (seen_parts store)
    (λ w. (w.frame, (w.members, (w.count, (w.has_failed, (w.strays, w.known))))))
    (λ p. record {
      frame = p.0;
      members = p.1.0;
      count = p.1.1.0;
      has_failed = p.1.1.1.0;
      strays = p.1.1.1.1.0;
      known = p.1.1.1.1.1;
    })
    (λ _. refl)

-- ---- what it stands for

-- A run in which each world is a register: the one before the first request, and the one after each.
abbrev pub RunsOverRegisters : World → List Request → List (Result Receipt Refusal) → World → Type 0
RunsOverRegisters w [] [] next = (next ≡ w) × IsRegister w
RunsOverRegisters w (q ∷ qs) (reply ∷ replies) next = IsRegister w
    × ((mid : World) × Step w q reply mid × RunsOverRegisters mid qs replies next)
RunsOverRegisters w [] (reply ∷ replies) next = ⊥
RunsOverRegisters w (q ∷ qs) [] next = ⊥

-- A reply that adds no receipt: a refusal, or a receipt that was there before, as the count of all receipts stays.
abbrev pub AddsNone : Result Receipt Refusal → ℕ → ℕ → Type 0
AddsNone (Ok receipt) before after = after ≡ before
AddsNone (Err why) before after = Unit {0}

module _ {S : Type 0} (g : Ghosts S) where
  -- Its frame is that of the world, its members are the world's packages, and it knows what the world's receipts name.
  pub record StandsFor (seen : Seen S) (w : World) : Type 0 where
    pub frame : seen.frame ≡ w.frame
    pub members : AreMembers g seen.members seen.count w
    pub known : Knows seen.known w

  -- There is a world that it stands for, where each disk has given back what was written, those of other stores too.
  pub record StandsBeside (seen : Seen S) : Type 0 where
    pub others : List (Held S)
    pub stands : AllClean g seen.members → AreClean g others → (w : World) × StandsFor seen w

  -- What each value of `World` keeps. Where each disk has given back what was written, those of dropped connections
  -- too, there is a world that it stands for, and so a register.
  pub record IsHeld (seen : Seen S) : Type 0 where
    -- the last states of the connections that were dropped so far, as those of merged children
    pub gone : List (Held S)
    pub rests : AllRest g seen.members
    pub stray_rests : AreAtRest g seen.strays
    -- a world that can be used has no stray
    pub none : seen.has_failed ≡ false → seen.strays ≡ []
    pub good : IsTrue (is_good_frame seen.frame)
    pub counted : seen.count ≤ greatest_receipts
    pub stands : AllClean g seen.members → AreClean g gone → (w : World) × StandsFor seen w

  -- the stores that it holds: the strays, and behind them those of its members
  abbrev pub held : Seen S → List (Held S)
  held seen = seen.strays ++ map (λ m. m.conn) seen.members

  -- The reply and the world afterwards are a step of each world that it stood for, where each disk has given back
  -- what was written, those of the connections that were dropped too.
  pub record IsStep (q : Request) (old : Seen S) (reply : Result Receipt Refusal) (new : Seen S) : Type 0 where
    -- the last states of the connections that left the world: none, or that of a merged child
    pub gone : List (Held S)
    pub clean : AllClean g new.members → AreClean g gone → AllClean g old.members
    pub step : AllClean g new.members → AreClean g gone → (w : World) → StandsFor old w
        → (next : World) × Step w q reply next × StandsFor new next
    -- Open stores are still open after a receipt or a refusal.
    pub opens : AllClean g new.members → AreClean g gone → ¬ IsFault reply → AllOpen g old.members
        → AllOpen g new.members
    -- After a fault of a world that could be used, whatever a crash leaves of stores that were open reads as the
    -- world before or as the one that the request is to make, whole, and what else is held is beside it.
    pub crash : IsFault reply → old.has_failed ≡ false → (w : World) → StandsFor old w → AllOpen g old.members
        → LeavesOneOf g w.frame (held new) w.packages (outcome w q).1.packages
    -- What a crash leaves of what left is beside the world that the request made.
    pub beside : AllClean g new.members → AreClean g gone → ¬ IsFault reply → (w : World) → StandsFor old w
        → AllOpen g old.members → AreBeside g w.frame (outcome w q).1.packages gone
    -- What it stands for afterwards is a register, balanced.
    pub register : (w : World) → StandsFor new w → IsRegister w
    -- After a refusal or a fault nothing but a failure of its disk has shut a store that was open.
    pub survive : IsErr reply → AllSurvive g old.members new.members
    -- After a refusal, and after a request that came again, no store was written to: all were only read.
    pub reads : ¬ IsFault reply → AddsNone reply old.count new.count → AllStay g old.members new.members
    -- At most two stores were written to. No member left, and no connection, but that of the package that a merge takes
    -- home, where a receipt is the reply; none came but that of the package that a split makes.
    pub writes : WritesTwoAtMost g (child_asked q.command) (child_returned q.command) old.members new.members gone
    pub dropped : IsErr reply → gone ≡ []
    -- After a new receipt each package that the request changed says its moment as that of its last change.
    pub dated : AllClean g new.members → AreClean g gone → (receipt : Receipt) → reply ≡ Ok receipt
        → ¬ (new.count ≡ old.count) → (w : World) → StandsFor old w
        → AreDated g w.frame q.at (packages_changed q.command) new.members

  -- After a refusal or a fault that leaves the world usable, whatever a crash leaves of stores that were open reads
  -- as the world before. So a world of which a commit may have gone through has failed.
  abbrev pub LeavesNoTrace : Seen S → Result Receipt Refusal → Seen S → Type 0
  LeavesNoTrace old reply new = IsErr reply → new.has_failed ≡ false → AllClean g new.members → (w : World)
      → StandsFor old w → AllOpen g old.members → EachLeaves g (λ m. m.conn) (LeftAs w.frame) new.members
      w.packages

  -- Of open stores a crash leaves what they read as: the packages of each world that they stand for, and nothing else.
  abbrev pub LeftAsItStands : Type 0
  LeftAsItStands = (seen : Seen S) (w : World) → IsHeld seen → StandsFor seen w → AllOpen g seen.members
      → EachLeaves g (λ m. m.conn) (LeftAs w.frame) seen.members w.packages

  -- The request gets a receipt that is entered, in each world that it stands for, where each disk has given back what
  -- was written. So it did not come before.
  abbrev pub IsAccepted : Request → Seen S → Seen S → Type 0
  IsAccepted q old new = AllClean g new.members → (w : World) → StandsFor old w → AddsReceipt w q

  -- After a refusal it stands for each world that it stood for, whatever the disks do.
  abbrev pub StandsStill : Seen S → Result Receipt Refusal → Seen S → Type 0
  StandsStill old reply new = IsErr reply → (w : World) → StandsFor old w → StandsFor new w

  -- One request, with a shelf that had failed so often before and after.
  pub record IsApplied (q : Request) (old : Seen S) (reply : Result Receipt Refusal) (new : Seen S)
      (before after : ℕ) : Type 0 where
    pub step : IsStep q old reply new
    pub still : StandsStill old reply new
    pub unharmed : LeavesNoTrace old reply new
    -- A world that has failed answers so to every request, and stays as it is.
    pub failed : old.has_failed ≡ true → (reply ≡ Err StoreFault) × (new ≡ old) × (after ≡ before)
    -- Where it is told that a store failed, the world has failed, or the shelf had none.
    pub cause : reply ≡ Err StoreFault → (new.has_failed ≡ true) ⊎ MoreFaults before after
    pub usable : ¬ IsFault reply → new.has_failed ≡ old.has_failed
    -- It has failed by nothing but a fault of a store that is told, or a request that was to get a new receipt; the
    -- shelf has no part in it.
    pub rises : old.has_failed ≡ false → new.has_failed ≡ true
        → (after ≡ before) × ((reply ≡ Err StoreFault) ⊎ IsAccepted q old new)
    pub shelf : before ≤ after

  -- Requests one after the other, each in the world that the one before left. These connections left then, in turn.
  abbrev pub AreApplied : List Request → Seen S → List (Result Receipt Refusal) → Seen S → List (Held S)
      → ℕ → ℕ
      → Type 0
  AreApplied [] old [] new gone before after = (new ≡ old) × (gone ≡ []) × (after ≡ before)
  AreApplied (q ∷ qs) old (reply ∷ replies) new gone before after = (mid : Seen S) × (between : ℕ)
      × (it : IsApplied q old reply mid before between) × (later : List (Held S)) × (gone ≡ it.step.gone ++ later)
      × AreApplied qs mid replies new later between after
  AreApplied [] old (reply ∷ replies) new gone before after = ⊥
  AreApplied (q ∷ qs) old [] new gone before after = ⊥

  -- The disks of these stores cannot fail, as those in memory, or no reply told a fault: so no store was shut.
  abbrev pub NoneShut : List (Result Receipt Refusal) → Type 0
  NoneShut replies = ((h : Held S) → (state g h).faults ≡ 0) ⊎ AllByRecursion (λ reply. ¬ IsFault reply) replies

  -- Where a run was stopped: the requests before were carried out, this one ended in a fault, and each after it was
  -- told that a store failed. A crash of stores that were open leaves the world before or the one that the request is
  -- to make, whole.
  pub record IsStopped (qs : List Request) (replies : List (Result Receipt Refusal)) (w : World)
      (new : Seen S) : Type 0 where
    pub done : List Request
    pub at : Request
    pub rest : List Request
    pub told : List (Result Receipt Refusal)
    pub reply : Result Receipt Refusal
    pub requests : qs ≡ done ++ at ∷ rest
    pub replied : replies ≡ told ++ reply ∷ map (λ q. Err StoreFault) rest
    pub fault : IsFault reply
    pub mid : World
    pub ran : Run w done told mid
    pub stands : StandsFor new mid
    pub crash : NoneShut told → LeavesOneOf g mid.frame (held new) mid.packages (outcome mid at).1.packages

  -- The replies and the world afterwards are a run of the whole list, with a shelf that had failed so often before
  -- and after.
  pub record IsRun (qs : List Request) (old : Seen S) (replies : List (Result Receipt Refusal)) (new : Seen S)
      (before after : ℕ) : Type 0 where
    -- the last states of the connections that left the world: of each merge that got a receipt one at most
    pub gone : List (Held S)
    pub clean : AllClean g new.members → AreClean g gone → AllClean g old.members
    pub run : AllClean g new.members → AreClean g gone → (w : World) → StandsFor old w
        → (next : World) × Run w qs replies next × StandsFor new next
    -- The world is a register, balanced, before the first request and after each one.
    pub registers : AllClean g new.members → AreClean g gone → (w : World) → StandsFor old w
        → (next : World) × RunsOverRegisters w qs replies next × StandsFor new next
    -- Open stores are still open where no reply tells a fault, so that a crash leaves what the world stands for then.
    pub opens : AllClean g new.members → AreClean g gone → AllByRecursion (λ reply. ¬ IsFault reply) replies
        → AllOpen g old.members → AllOpen g new.members
    -- A world that can still be used told no request that a store failed, unless the shelf's count rose.
    pub told : new.has_failed ≡ false → ¬ MoreFaults before after
        → AllByRecursion (λ reply. ¬ (reply ≡ Err StoreFault)) replies
    pub usable : AllByRecursion (λ reply. ¬ IsFault reply) replies → new.has_failed ≡ old.has_failed
    pub shelf : before ≤ after
    -- It has all that a step has, request by request.
    pub each : AreApplied qs old replies new gone before after
    -- Where no request is a merge no connection left the world.
    pub kept : AllByRecursion (λ q. child_returned q.command ≡ None) qs → gone ≡ []
    -- A world that had failed told each request that a store failed, and stayed as it was.
    pub failed : old.has_failed ≡ true → AllByRecursion (λ reply. reply ≡ Err StoreFault) replies
        × (new ≡ old)
    -- Open stores are still open where it can be used, unless a disk failed where memory was wanting.
    pub stays_open : AllClean g new.members → AreClean g gone → new.has_failed ≡ false → NoneShut replies
        → AllOpen g old.members → AllOpen g new.members
    -- Where it has failed on the way, a crash leaves one of the two worlds at which it was stopped.
    pub stops : AllClean g new.members → AreClean g gone → old.has_failed ≡ false → new.has_failed ≡ true
        → (w : World)
        → StandsFor old w → AllOpen g old.members → IsStopped qs replies w new
    -- Where the last reply is a refusal, or a fault that leaves it usable, a crash leaves the world that it stands for.
    pub unharmed : (told : List (Result Receipt Refusal)) (why : Refusal) → replies ≡ told ++ Err why ∷ []
        → new.has_failed ≡ false → AllClean g new.members → AreClean g gone → NoneShut told → (w : World)
        → StandsFor old w → AllOpen g old.members → (next : World) × Run w qs replies next × StandsFor new next
        × EachLeaves g (λ m. m.conn) (LeftAs next.frame) new.members next.packages

  -- The stores were only read, if at all, and nothing else has changed, so that it stands for what it stood for.
  pub record IsRead (old new : Seen S) : Type 0 where
    pub same : new ≡ record old { members = new.members }
    pub stay : AllStay g old.members new.members
    pub clean : AllClean g new.members → AllClean g old.members
    pub stands : (w : World) → StandsFor old w → StandsFor new w

  -- What was answered is true of each world that it stood for, where each disk has given back what was written.
  abbrev pub TellsOf : {X E : Type 0} → (World → X → Type 0) → Seen S → Seen S → Result X E → Type 0
  TellsOf Answer old new r = AllClean g new.members → IfOk r (λ x. (w : World) → StandsFor old w → Answer w x)
