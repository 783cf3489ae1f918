-- What a request comes to before anything is written: the reply, or the change that is due. Profile.
use Rattle.std.specs.Prelude.{◌≡◌, ◌<◌, ◌≤◌, ℕ, ◌+◌, true, List, length, Option, Some, None, Ok}
use Rattle.std.specs.Prelude.{slice_get}
use Rattle.std.specs.Bool.{then_some}
use Rattle.std.specs.Option.{option_or}
use Rattle.sheet_types.specs.Custody.{kept}
use Rattle.sheet_types.specs.Matrix.{first_row}
use Rattle.sheet_types.specs.Refuse.{identity_used, greatest_receipts}
use Rattle.sheet_types.specs.Step.{outcome, receipt_of}
use Rattle.sheet_types.specs.World.{World, is_live, holdings, receipts_of}
use Rattle.sheet_types.specs.declared.command.Command.{Command}
use Rattle.sheet_types.specs.declared.command.Command.TheVariants.{Split}
use Rattle.sheet_types.specs.declared.command.Request.{Request}
use Rattle.sheet_types.specs.declared.frame.Frame.{Frame}
use Rattle.sheet_types.specs.declared.refusal.Refusal.{Refusal}
use Rattle.sheet_types.specs.declared.refusal.Refusal.TheVariants.{IdentityUsed}
use Rattle.world_known.specs.Known.{Knows, Notes}
use Rattle.world_members.specs.Laws.{ChangesOnePackage, package_of}
use Rattle.world_loans.specs.Loans.{IsLent, IsReturned, HasLendingPlace, HasReturnPlace}
use Rattle.world_members.specs.Reasons.{text_reasons, package_reasons}
use Rattle.world_members.specs.Turning.{IsDue, world_after}
use Rattle.world_decisions.specs.declared.deciding.Decision.{Decision}
use Rattle.world_decisions.specs.declared.deciding.Decision.TheVariants.{Answered, ChangeDue, SplitDue, MergeDue}
use Rattle.world_members.specs.declared.members.Member.{Member}

-- the frame and the number of receipts are those of the world
pub record IsOf (f : Frame) (count : ℕ) (w : World) : Type 0 where
  pub frame : f ≡ w.frame
  pub counted : count ≡ length (receipts_of w)

-- and the request did not come before
pub record IsNewTo (f : Frame) (count : ℕ) (q : Request) (w : World) : Type 0 where
  pub of_world : IsOf f count w
  pub new : kept w q.id ≡ None

-- The frame and the number of receipts are those of the world, and the request is to change one package.
pub record IsAskedOf (f : Frame) (count : ℕ) (q : Request) (w : World) : Type 0 where
  pub frame : f ≡ w.frame
  pub counted : count ≡ length (receipts_of w)
  pub one : ChangesOnePackage q.command

-- and the request did not come before
pub record IsNewChange (f : Frame) (count : ℕ) (q : Request) (w : World) : Type 0 where
  pub asked : IsAskedOf f count q w
  pub new : kept w q.id ≡ None

-- the frame is that of the world, and a package stands at this place
pub record HasAt (f : Frame) (at : ℕ) (uuid : List ℕ) (w : World) : Type 0 where
  pub frame : f ≡ w.frame
  pub place : slice_get w.packages at ≡ Some (holdings w uuid)

-- a new request, whose package stands at this place
pub record IsPlaced (f : Frame) (count at : ℕ) (q : Request) (w : World) : Type 0 where
  pub asked : IsAskedOf f count q w
  pub new : kept w q.id ≡ None
  pub live : is_live w (package_of q.command) ≡ true
  pub place : slice_get w.packages at ≡ Some (holdings w (package_of q.command))

-- why such a request is refused, but for what it would leave
abbrev pub refusal_before : World → Request → Option Refusal
refusal_before w q =
    option_or (first_row (text_reasons q))
    (option_or (then_some (identity_used w q.command) IdentityUsed)
    (first_row (package_reasons w.frame (holdings w (package_of q.command)) q.command)))

-- Either the reply is that of the world, which stays, or the command is due where its package stands, or a split or
-- a merge is, with the receipt that is the reply.
abbrev pub Decides : World → Request → Decision → Type 0
Decides w q (Answered reply) = outcome w q ≡ (reply, w)
Decides w q (SplitDue due) = (next : World) × (outcome w q ≡ (Ok due.receipt, next)) × IsLent w next due
Decides w q (MergeDue due) = (next : World) × (outcome w q ≡ (Ok due.receipt, next)) × IsReturned w next due
Decides w q (ChangeDue due) =
    (due.receipt ≡ receipt_of w q) × (outcome w q ≡ (Ok due.receipt, world_after due.receipt q.command w))
    × IsDue w due.at due.receipt q.command due.sums

-- It is so in each world for which this holds, where what its receipts name is known.
abbrev pub DecidesWhere : List (List ℕ) → (World → Type 0) → Request → World → Decision → Type 0
DecidesWhere known Holds q w decision = Knows known w → Holds w → Decides w q decision

-- A change that is due has its place among the members, and its receipt the next number, which is not too great.
abbrev pub HasPlace : {S : Type 0} → List (Member S) → ℕ → Decision → Type 0
HasPlace members count (Answered reply) = Unit {0}
HasPlace members count (SplitDue due) = HasLendingPlace due (length members) count
HasPlace members count (MergeDue due) = HasReturnPlace due (length members) count
HasPlace members count (ChangeDue due) = (due.at < length members) × (due.receipt.seq ≡ count + 1)
    × (count + 1 ≤ greatest_receipts)

-- the package that a command asks to be made
abbrev pub child_asked : Command → Option (List ℕ)
child_asked (Split p child mode rect) = Some child
child_asked command = None

-- A split that is due makes this package, whatever the disks do; where there is none, no split is due.
abbrev pub Makes : Option (List ℕ) → Decision → Type 0
Makes child (Answered reply) = Unit {0}
Makes child (SplitDue due) = child ≡ Some due.child
Makes child (MergeDue due) = Unit {0}
Makes child (ChangeDue due) = Unit {0}

-- no split is due
abbrev pub MakesNone : Decision → Type 0
MakesNone decision = (child : Option (List ℕ)) → Makes child decision

-- What the receipt of what is due names is known.
abbrev pub IsNoted : List (List ℕ) → Decision → Type 0
IsNoted known (Answered reply) = Unit {0}
IsNoted known (SplitDue due) = Notes known due.receipt
IsNoted known (MergeDue due) = Notes known due.receipt
IsNoted known (ChangeDue due) = Notes known due.receipt
