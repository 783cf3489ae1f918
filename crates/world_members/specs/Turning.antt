-- The change of one member of a world, and what all members stand for after it. Profile.
use Rattle.std.specs.Prelude.{◌≡◌, ℕ, ◌+◌, List, Some, slice_get, slice_set, length, if◌then◌else◌}
use Rattle.std.specs.Prelude.{bytes_eq, None}
use Rattle.std.specs.Prelude.{Result, Ok, Err, IsTrue}
use Rattle.sqlite.specs.Effect.{Database}
use Rattle.sqlite.specs.Held.{Held, state}
use Rattle.sqlite.specs.State.{State}
use Rattle.sqlite.specs.Store.{Ghosts}
use Rattle.sqlite.specs.Tree.{Trees}
use Rattle.sheet_types.specs.Answers.{sums_held}
use Rattle.sheet_types.specs.Custody.{kept, ticket}
use Rattle.sheet_types.specs.Lines.{IsUuid, HasTypes}
use Rattle.sheet_types.specs.Refuse.{refusal}
use Rattle.sheet_types.specs.Register.{IsRegister}
use Rattle.sheet_types.specs.Step.{accepted, receipt_of}
use Rattle.sheet_types.specs.World.{World, Package, holdings, receipts_of, changed}
use Rattle.sheet_types.specs.declared.command.Command.{Command}
use Rattle.sheet_types.specs.declared.command.Request.{Request}
use Rattle.sheet_types.specs.declared.frame.Frame.{Frame}
use Rattle.sheet_types.specs.declared.receipt.Receipt.{Receipt}
use Rattle.sheet_types.specs.declared.receipt.Sums.{Sums}
use Rattle.store_sql.specs.Stores.{EachLeaves}
use Rattle.store_sql.specs.Transactions.{Turns}
use Rattle.identity_register.specs.Calls.{Becomes}
use Rattle.identity_register.specs.Reads.{Reads}
use Rattle.world_members.specs.Carrying.{Fits, after_command}
use Rattle.world_members.specs.Laws.{ChangesOnePackage, package_of}
use Rattle.world_members.specs.Members.{AllClean, AllOpen, AreMembers}
use Rattle.world_members.specs.Steps.{sums_moved, sums_after}
use Rattle.world_members.specs.declared.members.Member.{Member}

-- ---- the world

-- the world after a command that changes one package, with its receipt in it
abbrev pub world_after : Receipt → Command → World → World
world_after r command w = changed (after_command r command) (package_of command) w

-- A command is due at this place: it names the package there and fits it, and the world after it is a register, in
-- which the package holds this much and all else is counted as before.
pub record IsDue (w : World) (at : ℕ) (r : Receipt) (command : Command) (held : Sums) : Type 0 where
  pub holds : Package
  pub place : slice_get w.packages at ≡ Some holds
  pub named : holds.uuid ≡ package_of command
  pub fits : Fits r command holds
  pub sums : held ≡ sums_held (after_command r command holds)
  pub tickets : (id : List ℕ) → ticket (world_after r command w) id
      ≡ (if bytes_eq id (package_of command) then r.seq else ticket w id)
  pub counted : length (receipts_of (world_after r command w)) ≡ length (receipts_of w) + 1
  pub register : IsRegister (world_after r command w)

-- A request to change one package that is new and not refused is due where its package stands, with the sums of the
-- package and what its receipt moved. The identity of the request and the values of its command are those of their
-- types.
abbrev pub DueWhereAccepted : Type 0
DueWhereAccepted = (w : World) (q : Request) (at : ℕ) → IsRegister w → IsUuid q.id → HasTypes q.command
    → ChangesOnePackage q.command → kept w q.id ≡ None → refusal w (accepted w q) q ≡ None →
    slice_get w.packages at ≡ Some (holdings w (package_of q.command)) →
    IsDue w at (receipt_of w q) q.command (sums_after q.command (sums_moved (receipt_of w q))
    (sums_held (holdings w (package_of q.command))))

-- ---- the stores

-- The store carried the command out with its receipt, in one transaction, or is as it was. A store that was shut
-- stays shut.
pub record CarriesOut {E : Type 0} (r : Receipt) (command : Command) (old new : State)
    (reply : Result (Unit {0}) E) : Type 0 where
  pub turns : Turns (λ _. Becomes (Fits r command) (after_command r command)) old new reply
  pub was_open : IsTrue new.is_open → IsTrue old.is_open

-- what a crash left reads as this package
abbrev pub LeftAs : Frame → Trees → Package → Type 0
LeftAs f trees p = (db : Database) × (trees ≡ db.trees) × Reads f p db

module _ {S : Type 0} (g : Ghosts S) where
  -- the member after its store took a turn; where that went well, what is kept of it is this
  abbrev pub turned : {E : Type 0} → Receipt → Sums → Member S → Held S → Result (Unit {0}) E → Member S
  turned r sums was last (Ok x) = record was { conn = last; sums = sums; ticket = r.seq }
  turned r sums was last (Err e) = record was { conn = last }

  -- Whatever a crash leaves now of stores that were open reads as the packages that they stood for.
  abbrev pub LeavesAsBefore : List (Member S) → List (Member S) → Type 0
  LeavesAsBefore old new = AllClean g new → (w : World) (count : ℕ) → AreMembers g old count w → AllOpen g old
      → EachLeaves g (λ m. m.conn) (LeftAs w.frame) new w.packages

  -- The store of the member at this place carried the command out or not, and all other members are as they were.
  pub record CarriesOutAt {E : Type 0} (r : Receipt) (command : Command) (sums : Sums) (old new : List (Member S))
      (at : ℕ) (reply : Result (Unit {0}) E) : Type 0 where
    pub was : Member S
    pub place : slice_get old at ≡ Some was
    pub last : Held S
    pub others : new ≡ slice_set old at (turned r sums was last reply)
    pub turn : CarriesOut r command (state g was.conn) (state g last) reply
