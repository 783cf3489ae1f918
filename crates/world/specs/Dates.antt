-- Which requests get a receipt that is entered, and that the packages which they changed say its moment then. Profile.
use Rattle.std.specs.Prelude.{◌≡◌, ℕ, ◌+◌, List, [], ◌∷◌, length, Some, Result, Ok, Err, IsOk}
use Rattle.sqlite.specs.Held.{Held}
use Rattle.sqlite.specs.Store.{Ghosts}
use Rattle.sheet_types.specs.Step.{outcome}
use Rattle.sheet_types.specs.World.{World, receipts_of}
use Rattle.sheet_types.specs.declared.command.Command.{Command}
use Rattle.sheet_types.specs.declared.command.Request.{Request}
use Rattle.sheet_types.specs.declared.frame.Frame.{Frame}
use Rattle.sheet_types.specs.declared.receipt.Receipt.{Receipt}
use Rattle.sheet_types.specs.declared.refusal.Refusal.{Refusal}
use Rattle.package_tables.specs.declared.fault.Fault.{Fault}
use Rattle.register_lending.specs.declared.turn_fault.TurnFault.TheVariants.{Committing}
use Rattle.world_changes.specs.Carries.{OfEachSeen}
use Rattle.world_changes.specs.Dating.{AreDated, packages_changed}
use Rattle.world_changes.specs.Leaving.{AreClean}
use Rattle.world_changes.specs.Writing.{child_returned}
use Rattle.world_loans.specs.Loans.{IsReturned}
use Rattle.world_loans.specs.declared.loans.Returning.{Returning}
use Rattle.world_loans.specs.declared.loans.ServeFault.{ServeFault}
use Rattle.world_loans.specs.declared.loans.ServeFault.TheVariants.{Turn}
use Rattle.world_members.specs.Members.{AllClean, AreMembers}
use Rattle.world_members.specs.declared.members.Member.{Member}

-- The request gets a receipt that is entered: it is not refused, and did not come before.
abbrev pub AddsReceipt : World → Request → Type 0
AddsReceipt w q = IsOk (outcome w q).0 × (length (receipts_of (outcome w q).1) ≡ length (receipts_of w) + 1)

module _ {S : Type 0} (g : Ghosts S) where
  -- A commit of a receipt was tried for no other request than one that gets a new receipt.
  abbrev pub TriesReceipt : Frame → Request → List (Member S) → List (Member S) → List (List ℕ) → ℕ
      → Result (Result Receipt Refusal) ServeFault → Type 0
  TriesReceipt f q old new known count r = (why : Fault) → r ≡ Err (Turn (Committing why)) → AllClean g new
      → OfEachSeen g f known old count (λ w. AddsReceipt w q)

  -- After a merge that was due the command is that merge, and the package that took all says the moment of the receipt
  -- as that of its last change.
  abbrev pub DatesHome : Returning → Command → List (Member S) → List (Member S) → ℕ → List (Held S)
      → Result Receipt ServeFault → Type 0
  DatesHome due command old new count gone r = (receipt : Receipt) → r ≡ Ok receipt → AllClean g new
      → AreClean g gone → (w next : World) → AreMembers g old count w → (home : IsReturned w next due)
      → (child_returned command ≡ Some home.child.uuid)
      × AreDated g w.frame due.receipt.at (home.parent.uuid ∷ []) new

  -- Each package that the request changes says its moment as that of its last change.
  abbrev pub DatesChanged : Frame → Request → List (Member S) → List (Member S) → List (List ℕ) → ℕ
      → Type 0
  DatesChanged f q old new known count = OfEachSeen g f known old count
      (λ w. AreDated g w.frame q.at (packages_changed q.command) new)

  -- It is so after a new receipt.
  abbrev pub Dates : Frame → Request → List (Member S) → List (Member S) → List (List ℕ) → ℕ → ℕ
      → List (Held S) → Result (Result Receipt Refusal) ServeFault → Type 0
  Dates f q old new known before after gone r = AllClean g new → AreClean g gone → (receipt : Receipt)
      → r ≡ Ok (Ok receipt) → ¬ (after ≡ before) → DatesChanged f q old new known before
