-- Laws of the receipts that are kept, over every world and every list of requests. Profile.
use Rattle.std.specs.Prelude.{◌≡◌, ◌⊎◌, false, ℕ, pos, List, [], ◌∷◌, ◌++◌, Some, None}
use Rattle.std.specs.Prelude.{Result, Ok, Err, bytes_eq}
use Rattle.std.specs.Prelude.{codes}
use Rattle.std.specs.List.{AllByRecursion}
use Rattle.sheet_types.specs.Custody.{kept}
use Rattle.sheet_types.specs.Lines.{HasTypes}
use Rattle.sheet_types.specs.Register.{IsRegister}
use Rattle.sheet_types.specs.Step.{Step, Run, IsFault, outcome, receipt_of}
use Rattle.sheet_types.specs.Texts.{line}
use Rattle.sheet_types.specs.World.{World, receipts_of, no_package}
use Rattle.sheet_types.specs.declared.command.Command.TheVariants.{Merge}
use Rattle.sheet_types.specs.declared.command.Request.{Request}
use Rattle.sheet_types.specs.declared.frame.Frame.{Frame}
use Rattle.sheet_types.specs.declared.receipt.Receipt.{Receipt}
use Rattle.sheet_types.specs.declared.refusal.Refusal.{Refusal}
use Rattle.sheet_types.specs.declared.refusal.Refusal.TheVariants.{IdReused}

abbrev pub Reply : Type 0
Reply = Result Receipt Refusal

abbrev pub HaveTypes : List Request → Type 0
HaveTypes qs = AllByRecursion (λ q. HasTypes q.command) qs

-- ---- the ledger grows at its end

-- the ledger stays, or the receipt of this reply stands behind all others
abbrev pub Extends : World → Reply → World → Type 0
Extends w reply next = (receipts_of next ≡ receipts_of w)
    ⊎ ((r : Receipt) × (reply ≡ Ok r) × (receipts_of next ≡ receipts_of w ++ r ∷ []))

abbrev pub StepExtendsLedger : Type 0
StepExtendsLedger = (w : World) (q : Request) (reply : Reply) (next : World) →
    HasTypes q.command → IsRegister w → Step w q reply next → Extends w reply next

-- so no receipt is ever lost, changed or moved in the ledger, though merges carry them from package to package
abbrev pub RunExtendsLedger : Type 0
RunExtendsLedger = (w : World) (qs : List Request) (replies : List Reply) (next : World) →
    HaveTypes qs → IsRegister w → Run w qs replies next →
    (more : List Receipt) × (receipts_of next ≡ receipts_of w ++ more)

-- ---- what is kept stays kept

abbrev pub StepKeepsKept : Type 0
StepKeepsKept = (w : World) (q : Request) (reply : Reply) (next : World) (id : List ℕ) (r : Receipt) →
    HasTypes q.command → IsRegister w → Step w q reply next → kept w id ≡ Some r → kept next id ≡ Some r

abbrev pub RunKeepsKept : Type 0
RunKeepsKept = (w : World) (qs : List Request) (replies : List Reply) (next : World) (id : List ℕ) (r : Receipt) →
    HaveTypes qs → IsRegister w → Run w qs replies next → kept w id ≡ Some r → kept next id ≡ Some r

-- a receipt that is given, first or again, is kept for the request, and has its line, whatever the world is
abbrev pub AcceptedIsKept : Type 0
AcceptedIsKept = (w : World) (q : Request) (r : Receipt) (next : World) →
    Step w q (Ok r) next → (kept next q.id ≡ Some r) × (r.line ≡ line q.command)

-- ---- a request that comes again

-- each step gives this reply, or want of memory or a fault of the store, and changes nothing
abbrev pub Answers : World → Request → Reply → Type 0
Answers w q answer = (reply : Reply) (next : World) → Step w q reply next →
    ((reply ≡ answer) ⊎ IsFault reply) × (next ≡ w)

-- where the identity and the line of a request are kept, it gets that receipt after whatever requests
abbrev pub OnceForGood : Type 0
OnceForGood = (w : World) (q : Request) (r : Receipt) (qs : List Request) (replies : List Reply) (next : World) →
    HaveTypes qs → IsRegister w → Run w qs replies next →
    kept w q.id ≡ Some r → r.line ≡ line q.command → Answers next q (Ok r)

-- so does a request that was given a receipt
abbrev pub AcceptedForGood : Type 0
AcceptedForGood = (w : World) (q : Request) (r : Receipt) (mid : World) →
    HasTypes q.command → IsRegister w → Step w q (Ok r) mid →
    (qs : List Request) (replies : List Reply) (next : World) →
    HaveTypes qs → Run mid qs replies next → Answers next q (Ok r)

-- where the identity is kept for another line, the request is refused after whatever requests
abbrev pub OtherLineIsRefused : Type 0
OtherLineIsRefused = (w : World) (q : Request) (r : Receipt) (qs : List Request) (replies : List Reply) (next : World)
    →
    HaveTypes qs → IsRegister w → Run w qs replies next →
    kept w q.id ≡ Some r → bytes_eq r.line (line q.command) ≡ false → Answers next q (Err IdReused)

-- the one-world machine comes from this world to that one by these requests, one after the other
abbrev pub ComesTo : World → List Request → World → Type 0
ComesTo w qs next = (replies : List Reply) × Run w qs replies next

-- A request that got a receipt among others, and comes again behind them, gets it again and acted once: the world is
-- that of a list in which it stands once.
abbrev pub ActsOnce : Type 0
ActsOnce = (w mid : World) (before : List Request) (q : Request) (r : Receipt) (given : World)
    (between : List Request) (replies : List Reply) (last : World) (again : Reply) (next : World) →
    HaveTypes before → HasTypes q.command → HaveTypes between → IsRegister w →
    ComesTo w before mid → Step mid q (Ok r) given → Run given between replies last → Step last q again next →
    ((again ≡ Ok r) ⊎ IsFault again) × ComesTo w (before ++ q ∷ between) next

-- ---- a request that is stopped, and comes again

-- the first of these replies is this one, or want of memory or a fault of the store
abbrev pub BeginsWith : Reply → List Reply → Type 0
BeginsWith answer [] = ⊥
BeginsWith answer (reply ∷ replies) = (reply ≡ answer) ⊎ IsFault reply

-- what a stop leaves of a world: it is as before the request, or as after it
abbrev pub IsBeforeOrAfter : World → Request → World → Type 0
IsBeforeOrAfter w q left = (left ≡ w) ⊎ (left ≡ (outcome w q).1)

-- A request that was stopped, and comes again with others behind it, gets the reply that it would have got, and acts
-- once: the world is that of a list in which it stands once.
abbrev pub StoppedActsOnce : Type 0
StoppedActsOnce = (w mid : World) (before : List Request) (q : Request) (left : World) (others : List Request)
    (replies : List Reply) (next : World) →
    HaveTypes before → HasTypes q.command → IsRegister w → ComesTo w before mid → IsBeforeOrAfter mid q left →
    Run left (q ∷ others) replies next → BeginsWith (outcome mid q).0 replies
    × ComesTo w (before ++ q ∷ others) next

-- ---- requests that are refused

-- the requests that got a receipt, and their replies
abbrev pub answered : List Request → List Reply → List Request
answered [] replies = []
answered (q ∷ qs) [] = []
answered (q ∷ qs) (Ok r ∷ replies) = q ∷ answered qs replies
answered (q ∷ qs) (Err why ∷ replies) = answered qs replies

abbrev pub receipts_given : List Reply → List Reply
receipts_given [] = []
receipts_given (Ok r ∷ replies) = Ok r ∷ receipts_given replies
receipts_given (Err why ∷ replies) = receipts_given replies

-- a run is one of those requests alone: as if the others, refused or met by a fault, had never been asked
abbrev pub RefusedAsUnasked : Type 0
RefusedAsUnasked = (w : World) (qs : List Request) (replies : List Reply) (next : World) →
    Run w qs replies next → Run w (answered qs replies) (receipts_given replies) next

-- ---- a world that is no register

abbrev uuid_of : ℕ → List ℕ
uuid_of n = 0 ∷ 0 ∷ 0 ∷ 0 ∷ 0 ∷ 0 ∷ 0 ∷ 0 ∷ 0 ∷ 0 ∷ 0 ∷ 0 ∷ 0 ∷ 0 ∷ 0 ∷ n ∷ []

abbrev plain_receipt : Receipt
plain_receipt = record {
  seq = 1;
  request = uuid_of 3;
  at = [];
  line = [];
  source = None;
  target = None;
  items = [];
  tiles = 0;
  media = 0;
  rows = 0;
  links = 0;
  bytes = 0;
}

-- two loans under one UUID, of which the second has a receipt
abbrev doubled : Frame → World
doubled frame = record {
  frame = frame;
  packages = record no_package { uuid = uuid_of 1 }
      ∷ record no_package { uuid = uuid_of 2; parent = Some (uuid_of 1); depth = 1 }
      ∷ record no_package { uuid = uuid_of 2; parent = Some (uuid_of 1); depth = 1; receipts = plain_receipt ∷ [] }
      ∷ [];
}

abbrev homecoming : Request
homecoming = record {
  id = uuid_of 4;
  at = codes "2024-05-01T08:00:00.000Z";
  command = Merge (uuid_of 2) (uuid_of 1) (pos 0);
}

-- their merge is accepted and loses that receipt
abbrev pub DoubledLosesReceipt : Type 0
DoubledLosesReceipt = (frame : Frame) → HasTypes homecoming.command
    × ((outcome (doubled frame) homecoming).0 ≡ Ok (receipt_of (doubled frame) homecoming))
    × (kept (doubled frame) (uuid_of 3) ≡ Some plain_receipt)
    × (kept (outcome (doubled frame) homecoming).1 (uuid_of 3) ≡ None)
