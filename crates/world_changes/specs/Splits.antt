-- What a split makes of the members of a world, once the store of the child is there. Profile.
use Rattle.std.specs.Prelude.{◌≡◌, ◌⊎◌, ◌≤◌, ℕ, ◌+◌, true, List, [], ◌∷◌, ◌++◌, map}
use Rattle.std.specs.Prelude.{length, Some, Result, Ok, Err}
use Rattle.std.specs.Prelude.{IfOk, IsTrue, ◌≢◌}
use Rattle.sqlite.specs.Held.{Held, state}
use Rattle.std.specs.List.{AllByRecursion, insert}
use Rattle.sqlite.specs.Effect.{Database}
use Rattle.sqlite.specs.State.{State, HasCleanDisk}
use Rattle.sqlite.specs.Tree.{Trees}
use Rattle.sqlite.specs.Store.{Ghosts}
use Rattle.sheet_types.specs.Cut.{Cut}
use Rattle.sheet_types.specs.Texts.{is_moment}
use Rattle.sheet_types.specs.World.{World, Package}
use Rattle.sheet_types.specs.declared.frame.Frame.{Frame}
use Rattle.sheet_types.specs.declared.receipt.Receipt.{Receipt}
use Rattle.identity_register.specs.Creation.{Keeps}
use Rattle.identity_register.specs.Reads.{Reads}
use Rattle.identity_register.specs.declared.selection.Selection.{Selection}
use Rattle.register_lending.specs.Selecting.{IsSelectionOf, IsPart, MayCome}
use Rattle.transfer.specs.Parcels.{with_cut}
use Rattle.package_tables.specs.declared.fault.Fault.TheVariants as fault
use Rattle.world_changes.specs.Leaving.{AllSurvive, AreBeside, LeavesOneOf}
use Rattle.world_changes.specs.Writing.{AllStayButOne}
use Rattle.world_loans.specs.Loans.{IsLent, loan}
use Rattle.world_members.specs.Members.{AllRest, AllClean, AllOpen, AreMembers}
use Rattle.world_changes.specs.Turns.{IsUncommitted}
use Rattle.world_members.specs.Turning.{LeftAs, LeavesAsBefore}
use Rattle.register_lending.specs.declared.turn_fault.TurnFault.{TurnFault}
use Rattle.register_lending.specs.declared.turn_fault.TurnFault.TheVariants.{Before}
use Rattle.world_loans.specs.declared.loans.Lending.{Lending}
use Rattle.world_members.specs.declared.members.Member.{Member}

-- the member of a child
abbrev pub member_of_child : {S : Type 0} → Lending → Held S → Member S
member_of_child due child = record {
  conn = child;
  uuid = due.child;
  parent = Some due.parent;
  depth = due.depth;
  loan = due.receipt.seq;
  sums = due.lent;
  ticket = due.receipt.seq;
}

-- It reads as the child with nothing in it, or with what was selected of its parent, which read as what this database
-- holds: where the disk of the parent has given back what was written.
abbrev pub ReadsAsChild : Frame → List ℕ → Package → Selection → Database → State → Trees → Type 0
ReadsAsChild f at empty s source read trees = HasCleanDisk read → is_moment at ≡ true → (c : Cut) (from : Package)
    → IsSelectionOf c s → Reads f from source → IsPart c from → MayCome c empty
    → LeftAs f trees empty ⊎ LeftAs f trees (with_cut c empty)

module _ {S : Type 0} (g : Ghosts S) where
  -- the store of the child keeps the loan, where its disk has given back what was written
  abbrev pub KeepsLoan : (w next : World) (due : Lending) → IsLent w next due → Held S → Type 0
  KeepsLoan w next due lent child = HasCleanDisk (state g child) → Keeps w.frame (loan due lent.taken) (state g child)

  -- The parent lent and the child stands at its place; or the parent is as it was, and where that may not be told or
  -- its store failed the child's store is kept among the strays.
  pub record Splits (due : Lending) (child : Held S) (old new : List (Member S))
      (strays_before strays_after : List (Held S)) (r : Result Receipt TurnFault) : Type 0 where
    pub rests : AllRest g new
    pub clean : AllClean g new → AllClean g old
    pub done : (receipt : Receipt) → r ≡ Ok receipt
        → (receipt ≡ due.receipt) × (strays_after ≡ strays_before) × (length new ≡ length old + 1)
        × ((w next : World) (count : ℕ) → AllClean g new → AreMembers g old count w
        → (lent : IsLent w next due)
        → KeepsLoan w next due lent child → AreMembers g new (count + 1) next)
    pub opens : AllClean g new → IfOk r (λ receipt. AllOpen g old
        → (HasCleanDisk (state g child) → IsTrue (state g child).is_open) → AllOpen g new)
    -- the child came, and of the others all but one at most were only read
    pub came : (receipt : Receipt) → r ≡ Ok receipt → (mid : List (Member S)) × AllStayButOne g old mid
        × (new ≡ insert mid due.child_at (member_of_child due child))
    pub others : (why : TurnFault) → r ≡ Err why → AllStayButOne g old new
    pub failed : (why : TurnFault) → r ≡ Err why
        → (length new ≡ length old) × ((w : World) (count : ℕ) → AreMembers g old count w
        → AreMembers g new count w)
    pub kept : (why : TurnFault) → r ≡ Err why → why ≢ Before fault.OutOfMemory
        → strays_after ≡ strays_before ++ child ∷ []
    pub dropped : r ≡ Err (Before fault.OutOfMemory) → strays_after ≡ strays_before
    pub few : length strays_after ≤ length strays_before + 1
    pub survive : (why : TurnFault) → r ≡ Err why → AllSurvive g old new
    pub unharmed : IsUncommitted r → LeavesAsBefore g old new
    -- After an error, whatever a crash leaves of the members and the child reads as the world before, with the child
    -- beside it, or as the one after.
    pub crash : (why : TurnFault) → r ≡ Err why → (w next : World) (count : ℕ) → AreMembers g old count w
        → (lent : IsLent w next due) → KeepsLoan w next due lent child → AllOpen g old
        → LeavesOneOf g w.frame (child ∷ map (λ m. m.conn) new) w.packages next.packages
