-- Whether a request would leave too many, by what is kept of the members. Profile.
use Rattle.std.specs.Prelude.{◌≡◌, ℕ, ◌+◌, Bool, true, ◌||◌, nat_lt, List, map, length, Some, None}
use Rattle.std.specs.Prelude.{slice_get}
use Rattle.std.specs.Prelude.{slice_set}
use Rattle.std.specs.List.{list_any}
use Rattle.sqlite.specs.Store.{Ghosts}
use Rattle.sheet_types.specs.Answers.{sums_held}
use Rattle.sheet_types.specs.Matrix.{first_row}
use Rattle.sheet_types.specs.Refuse.{greatest_packages, greatest_receipts, too_many}
use Rattle.sheet_types.specs.Register.{IsRegister}
use Rattle.sheet_types.specs.Step.{accepted, receipt_of}
use Rattle.sheet_types.specs.World.{World, is_live, holdings}
use Rattle.sheet_types.specs.declared.command.Request.{Request}
use Rattle.sheet_types.specs.declared.receipt.Sums.{Sums}
use Rattle.world_queries.specs.Asking.{StandsAt}
use Rattle.world_members.specs.Carrying.{Fits}
use Rattle.world_members.specs.Laws.{package_of}
use Rattle.world_members.specs.Members.{AreMembers}
use Rattle.world_members.specs.Reasons.{text_reasons}
use Rattle.world_members.specs.Steps.{is_past_limits, sums_moved, sums_after, sums_next}
use Rattle.world_queries.specs.Sums.{CanCount}
use Rattle.world_members.specs.declared.members.Member.{Member}

-- what each member holds, with these sums for the one at this place
abbrev pub sums_with : {S : Type 0} → List (Member S) → ℕ → Sums → List Sums
sums_with members at sums = slice_set (map (λ m. m.sums) members) at sums

-- A member is past the limits, or there are too many members, or one receipt more is too many.
abbrev pub leaves_too_many : {S : Type 0} → List (Member S) → ℕ → Sums → ℕ → Bool
leaves_too_many members at sums count = list_any is_past_limits (sums_with members at sums)
    || nat_lt greatest_packages (length members) || nat_lt greatest_receipts (count + 1)

-- What the package of a command holds after it cannot be counted only where the request would leave too many. The
-- texts of the request are not refused.
abbrev pub TooManyUncounted : Type 0
TooManyUncounted = (w : World) (q : Request) → IsRegister w → is_live w (package_of q.command) ≡ true
    → Fits (receipt_of w q) q.command (holdings w (package_of q.command)) → first_row (text_reasons q) ≡ None →
    (CanCount q.command (sums_moved (receipt_of w q)) (sums_held (holdings w (package_of q.command))) → ⊥)
    → too_many (accepted w q) ≡ true

module _ {S : Type 0} (g : Ghosts S) where
  -- The sums that are kept of a package are those of what it holds.
  abbrev pub MemberHolds : Type 0
  MemberHolds = (members : List (Member S)) (count at : ℕ) (w : World) (uuid : List ℕ) (was : Member S)
      → AreMembers g members count w → StandsAt g members uuid at → slice_get members at ≡ Some was
      → was.sums ≡ sums_held (holdings w uuid)

  -- With the sums after a command in the place of its package, the members tell what each package holds after the
  -- request.
  abbrev pub MembersHoldNext : Type 0
  MembersHoldNext = (members : List (Member S)) (count at : ℕ) (w : World) (q : Request) (was : Member S)
      → AreMembers g members count w → StandsAt g members (package_of q.command) at
      → slice_get members at ≡ Some was →
      sums_with members at (sums_after q.command (sums_moved (receipt_of w q)) was.sums) ≡ sums_next w q

  -- So they tell whether the request would leave too many.
  abbrev pub MembersTellTooMany : Type 0
  MembersTellTooMany = (members : List (Member S)) (count at : ℕ) (w : World) (q : Request) (was : Member S)
      → AreMembers g members count w → StandsAt g members (package_of q.command) at
      → slice_get members at ≡ Some was →
      Fits (receipt_of w q) q.command (holdings w (package_of q.command)) →
      leaves_too_many members at (sums_after q.command (sums_moved (receipt_of w q)) was.sums) count
      ≡ too_many (accepted w q)

  -- And where the sums after the command cannot be counted, it would.
  abbrev pub MembersTellUncounted : Type 0
  MembersTellUncounted = (members : List (Member S)) (count at : ℕ) (w : World) (q : Request) (was : Member S)
      → AreMembers g members count w → StandsAt g members (package_of q.command) at
      → slice_get members at ≡ Some was →
      Fits (receipt_of w q) q.command (holdings w (package_of q.command)) → first_row (text_reasons q) ≡ None →
      (CanCount q.command (sums_moved (receipt_of w q)) was.sums → ⊥) → too_many (accepted w q) ≡ true
