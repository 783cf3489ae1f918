-- Laws of views of a register's stores. Profile.
use Rattle.std.specs.Prelude.{◌≡◌, true, false, ⊤, ℕ, List, MatchOption, Result, Ok}
use Rattle.std.specs.List.{AllByRecursion}
use Rattle.sheet_types.specs.Lines.{HasTypes}
use Rattle.sheet_types.specs.Register.{IsRegister}
use Rattle.sheet_types.specs.Step.{Step, outcome}
use Rattle.sheet_types.specs.World.{World, new_world}
use Rattle.sheet_types.specs.declared.command.Request.{Request}
use Rattle.sheet_types.specs.declared.frame.Frame.{Frame}
use Rattle.sheet_types.specs.declared.receipt.Receipt.{Receipt}
use Rattle.sheet_types.specs.declared.refusal.Refusal.{Refusal}
use Rattle.sheet_laws.specs.Laws.{StoreSight, StoresStandFor, HasNoFault}
use Rattle.opening_laws_model.specs.Beside.{AreViewsOfWorld, IsStrayView, IsUnknown, is_live}
use Rattle.opening_laws_model.specs.Timely.{IsTimely, IsInBounds}

-- Views of a register's stores stand for it, in whatever order they are and whatever strays are beside them.
abbrev pub RegisterStands : Type 0
RegisterStands = (w : World) (views : List StoreSight) → IsRegister w → AreViewsOfWorld views w
    → StoresStandFor views w

-- So none of the nine faults of opening holds of them.
abbrev pub RegisterHasNoFault : Type 0
RegisterHasNoFault = (w : World) (views : List StoreSight) → IsRegister w → AreViewsOfWorld views w
    → HasNoFault views

-- The views of the world's packages are live, and those of the strays are not.
abbrev pub StraysAreApart : Type 0
StraysAreApart = (w : World) (views : List StoreSight) → IsRegister w → (of : AreViewsOfWorld views w) →
    AllByRecursion (λ v. is_live views v ≡ true) of.members × AllByRecursion (λ v. is_live views v ≡ false)
    of.others

-- ---- strays by their heads

-- A view without head is that of a stray, and so is one whose head is that of a loan which is no package of the world.
abbrev pub UnknownIsStray : Type 0
UnknownIsStray = (w : World) (v : StoreSight) → IsRegister w → MatchOption v.head ⊤ (IsUnknown w)
    → IsStrayView w v

-- ---- moments and bounds

-- a new world has no receipts
abbrev pub NewWorldIsTimely : Type 0
NewWorldIsTimely = (archive : List ℕ) (frame : Frame) → IsTimely (new_world archive frame)

-- whatever is asked, and whatever the reply
abbrev pub StepKeepsTimely : Type 0
StepKeepsTimely = (w : World) (q : Request) (reply : Result Receipt Refusal) (next : World) →
    HasTypes q.command → IsRegister w → IsTimely w → Step w q reply next → IsTimely next

abbrev pub PackagesAreInBounds : Type 0
PackagesAreInBounds = (w : World) → IsRegister w → IsTimely w → AllByRecursion IsInBounds w.packages

-- ---- repeats

-- A request that got a receipt gets the same one in the world that it made, and changes nothing there.
abbrev pub RepeatGetsItsReceipt : Type 0
RepeatGetsItsReceipt = (w : World) (q : Request) (r : Receipt) → IsRegister w → (outcome w q).0 ≡ Ok r →
    outcome (outcome w q).1 q ≡ (Ok r, (outcome w q).1)
