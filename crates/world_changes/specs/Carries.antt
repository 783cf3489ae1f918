-- What carrying out what is due makes of the members of a world that can be used, and what serving a request does.
-- Profile.
use Rattle.std.specs.Prelude.{◌≡◌, ◌≤◌, ℕ, ◌+◌, List, [], ◌++◌, map, length, Result, Ok, Err}
use Rattle.std.specs.Prelude.{IfOk, IsErr, IsOk}
use Rattle.sqlite.specs.Held.{Held}
use Rattle.sqlite.specs.Store.{Ghosts}
use Rattle.sheet_types.specs.Refuse.{greatest_receipts}
use Rattle.sheet_types.specs.Step.{outcome}
use Rattle.sheet_types.specs.World.{World}
use Rattle.sheet_types.specs.declared.command.Request.{Request}
use Rattle.sheet_types.specs.declared.frame.Frame.{Frame}
use Rattle.sheet_types.specs.declared.receipt.Receipt.{Receipt}
use Rattle.sheet_types.specs.declared.refusal.Refusal.{Refusal}
use Rattle.world_known.specs.Known.{Grows, Knows}
use Rattle.world_changes.specs.Leaving.{AllSurvive, AreAtRest, AreClean, AreBeside, LeavesOneOf, WereRead}
use Rattle.world_members.specs.Members.{AllRest, AllClean, AllOpen, AreMembers}
use Rattle.world_loans.specs.ServeFaults.{IsLastingFault}
use Rattle.package_tables.specs.declared.fault.Fault.{Fault}
use Rattle.world_members.specs.Turning.{LeavesAsBefore}
use Rattle.register_lending.specs.declared.turn_fault.TurnFault.TheVariants.{Before, Committing}
use Rattle.world_loans.specs.declared.loans.ServeFault.{ServeFault}
use Rattle.world_loans.specs.declared.loans.ServeFault.TheVariants.{Unshelved, Turn}
use Rattle.world_members.specs.declared.members.Member.{Member}

-- no commit that carries a receipt was tried
abbrev pub IsBeforeCommit : ServeFault → Type 0
IsBeforeCommit (Unshelved why) = Unit {0}
IsBeforeCommit (Turn (Before why)) = Unit {0}
IsBeforeCommit (Turn (Committing why)) = ⊥

-- the frame is that of the world, and what its receipts name is known
abbrev pub IsSeenBy : Frame → List (List ℕ) → World → Type 0
IsSeenBy f known w = (f ≡ w.frame) × Knows known w

-- nothing was to be changed, or no such commit was tried
abbrev pub IsUntouched : Result (Result Receipt Refusal) ServeFault → Type 0
IsUntouched (Ok reply) = IsErr reply
IsUntouched (Err why) = IsBeforeCommit why

-- there is no receipt
abbrev pub HasNoReceipt : Result (Result Receipt Refusal) ServeFault → Type 0
HasNoReceipt (Ok reply) = IsErr reply
HasNoReceipt (Err why) = Unit {0}

module _ {S : Type 0} (g : Ghosts S) where
  -- the members stand for each world that they stood for
  abbrev pub StandOn : List (Member S) → ℕ → List (Member S) → ℕ → Type 0
  StandOn old before new after = (w : World) → AreMembers g old before w → AreMembers g new after w

  -- it is so of each world that the members stand for, and of the next one that is due
  abbrev pub OfEachDue : (World → World → Type 0) → List (Member S) → ℕ → (World → World → Type 0)
      → Type 0
  OfEachDue Due members count Fact = (w next : World) → AreMembers g members count w → Due w next → Fact w next

  -- and of each that they stand for which has this frame, where what its receipts name is known
  abbrev pub OfEachSeen : Frame → List (List ℕ) → List (Member S) → ℕ → (World → Type 0) → Type 0
  OfEachSeen f known members count Fact = (w : World) → IsSeenBy f known w → AreMembers g members count w → Fact w

  -- What was due of a world and a next one was carried out, and the receipt is the reply; or it failed, and the members
  -- stand for what they stood for. Before there was no stray.
  pub record Carries
      (Due : World → World → Type 0) (due : Receipt) (old new : List (Member S)) (strays : List (Held S))
      (before after : ℕ) (r : Result Receipt ServeFault) : Type 0 where
    -- the last states of the connections that left the list
    pub gone : List (Held S)
    pub read : WereRead g old gone
    pub survive : (why : ServeFault) → r ≡ Err why → AllSurvive g old new
    pub rests : AllRest g new
    pub stray_rests : AreAtRest g strays
    pub clean : AllClean g new → AreClean g gone → AllClean g old
    pub ok : (receipt : Receipt) → r ≡ Ok receipt → (receipt ≡ due) × (after ≡ before + 1) × (strays ≡ [])
        × ((w next : World) → AllClean g new → AreClean g gone → AreMembers g old before w → Due w next
        → AreMembers g new after next)
    pub opens : AllClean g new → AreClean g gone → IfOk r (λ receipt. AllOpen g old → AllOpen g new)
    pub beside : (receipt : Receipt) → r ≡ Ok receipt
        → OfEachDue Due old before (λ w next. AllOpen g old → AreBeside g w.frame next.packages gone)
    pub kept : (why : ServeFault) → r ≡ Err why → gone ≡ []
    pub err : (why : ServeFault) → r ≡ Err why → (after ≡ before) × StandOn old before new before
    pub usable : (why : ServeFault) → r ≡ Err why → ¬ IsLastingFault why → strays ≡ []
    pub unharmed : (why : ServeFault) → r ≡ Err why → IsBeforeCommit why → LeavesAsBefore g old new
    pub crash : (why : ServeFault) → r ≡ Err why → OfEachDue Due old before (λ w next. AllOpen g old
        → LeavesOneOf g w.frame (strays ++ map (λ m. m.conn) new) w.packages next.packages)

  -- The reply, and what the members stand for afterwards, are those of the model, and what its receipts name then is
  -- known.
  pub record IsServedAs
      (w : World) (q : Request) (new : List (Member S)) (noted : List (List ℕ)) (after : ℕ)
      (reply : Result Receipt Refusal) : Type 0 where
    pub next : World
    pub told : outcome w q ≡ (reply, next)
    pub frame : next.frame ≡ w.frame
    pub members : AreMembers g new after next
    pub known : Knows noted next

  -- One request was dealt with in a world that can be used. Where each disk has given back what was written, as the
  -- model says; and unless the reply is a receipt the members stand for what they stood for.
  pub record ServesAll
      (f : Frame) (q : Request) (old new : List (Member S)) (strays : List (Held S)) (known noted : List (List ℕ))
      (before after : ℕ) (r : Result (Result Receipt Refusal) ServeFault) : Type 0 where
    -- the last states of the connections that left the list
    pub gone : List (Held S)
    pub read : WereRead g old gone
    pub dropped : HasNoReceipt r → gone ≡ []
    pub survive : HasNoReceipt r → AllSurvive g old new
    -- where a commit of a receipt was tried, the request is to be carried out
    pub tried : (why : Fault) → r ≡ Err (Turn (Committing why)) → AllClean g new
        → OfEachSeen f known old before (λ w. IsOk (outcome w q).0)
    pub rests : AllRest g new
    pub stray_rests : AreAtRest g strays
    pub counted : after ≤ greatest_receipts
    -- what was known still is
    pub grows : Grows known noted
    pub clean : AllClean g new → AreClean g gone → AllClean g old
    pub told : AllClean g new → AreClean g gone → (reply : Result Receipt Refusal) → r ≡ Ok reply
        → OfEachSeen f known old before (λ w. IsServedAs w q new noted after reply)
    pub opens : AllClean g new → AreClean g gone → IfOk r (λ reply. AllOpen g old → AllOpen g new)
    -- what a crash leaves of a merged child is beside the world after
    pub beside : AllClean g new → AreClean g gone → (reply : Result Receipt Refusal) → r ≡ Ok reply
        → OfEachSeen f known old before (λ w. AllOpen g old → AreBeside g w.frame (outcome w q).1.packages gone)
    pub refused : (why : Refusal) → r ≡ Ok (Err why) → StandOn old before new after
    pub failed : (why : ServeFault) → r ≡ Err why → StandOn old before new after
    pub none : (reply : Result Receipt Refusal) → r ≡ Ok reply → strays ≡ []
    pub usable : (why : ServeFault) → r ≡ Err why → ¬ IsLastingFault why → strays ≡ []
    pub unharmed : IsUntouched r → LeavesAsBefore g old new
    -- After a fault, whatever a crash leaves of stores that were open reads as the world before or as the one that the
    -- request is to make, whole, and what else is held is beside it.
    pub crash : (why : ServeFault) → r ≡ Err why → OfEachSeen f known old before (λ w. AllOpen g old
        → LeavesOneOf g w.frame (strays ++ map (λ m. m.conn) new) w.packages (outcome w q).1.packages)
