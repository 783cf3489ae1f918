-- What an import makes of a world, and what it writes. Profile.
use Rattle.std.specs.Prelude.{◌≡◌, ◌⊎◌, ◌≤◌, ◌-◌, ℕ, List, [], ◌∷◌, ◌++◌, Option}
use Rattle.std.specs.Prelude.{Some, None, Result, Ok, Err, IfSome}
use Rattle.std.specs.Prelude.{length, take}
use Rattle.std.specs.List.{AllByRecursion}
use Rattle.std.specs.Io.KnownBytes.{Appends}
use Rattle.sqlite.specs.Held.{Held}
use Rattle.sqlite.specs.Store.{Ghosts}
use Rattle.package_tables.specs.declared.fault.Fault.{Fault}
use Rattle.sheet_types.specs.Step.{IsFault}
use Rattle.sheet_types.specs.declared.command.Request.{Request}
use Rattle.sheet_types.specs.declared.receipt.Receipt.{Receipt}
use Rattle.sheet_types.specs.declared.refusal.Refusal.{Refusal}
use Rattle.register_lending.specs.Faults.{fault_refusal}
use Rattle.world.specs.Asked.{AreStepsWith}
use Rattle.world.specs.Worlds.{Seen, IsRun}
use Rattle.request_csv.specs.RequestLists.{IsList, MeetsFirst}
use Rattle.request_csv.specs.declared.lists.ReadFault.{ReadFault}
use Rattle.request_csv.specs.declared.lists.ReadFault.TheVariants.{Read, Memory}
use Rattle.manifest_csv.specs.Progress.{AreTold, Tells, Told}
use Rattle.manifest_csv.specs.Reports.{report_header, report_lines, report_of}
use Rattle.manifest_csv.specs.Sent.{WentOutPast}
use Rattle.manifest_csv.specs.declared.importing.ImportFault.{ImportFault}
use Rattle.manifest_csv.specs.declared.importing.ImportFault.TheVariants.{Unread, Stopped, Unwritten}

-- a reply after which an import goes on
abbrev pub GoesOn : Result Receipt Refusal → Type 0
GoesOn reply = ¬ IsFault reply

-- the fault that a reply ends an import with, if it does
abbrev pub IsEndOf : Result Receipt Refusal → Option Fault → Type 0
IsEndOf reply None = GoesOn reply
IsEndOf reply (Some fault) = reply ≡ Err (fault_refusal fault)

-- the replies of an import that was stopped by this fault, which the last of them tells
abbrev pub AreStopped : List (Result Receipt Refusal) → Fault → Type 0
AreStopped replies fault = (before : List (Result Receipt Refusal))
    × (replies ≡ before ++ Err (fault_refusal fault) ∷ []) × AllByRecursion GoesOn before

-- the lines of all replies but the last
abbrev pub lines_before : List Request → List (Result Receipt Refusal) → List ℕ
lines_before requests replies = report_lines 1 requests (take (length replies - 1) replies)

-- What had gone out before the last line of a report: all before that line, or nothing where there is no reply.
abbrev pub report_before : List Request → List (Result Receipt Refusal) → List ℕ
report_before requests [] = []
report_before requests (reply ∷ replies) = report_header ++ lines_before requests (reply ∷ replies)

-- What was written for these replies to a list of requests. text is the whole that was due: all lines so far; sent is
-- what had gone out before the last of them.
abbrev pub IsWritten : List Request → List (Result Receipt Refusal) → List ℕ → List ℕ → Option (List ℕ)
    → Option (List ℕ) → Result (Unit {0}) ImportFault → Type 0
IsWritten requests replies sent text before after (Ok x) = (length replies ≡ length requests)
    × AllByRecursion GoesOn replies × Appends before after text
IsWritten requests replies sent text before after (Err (Stopped n fault)) = (n ≡ length replies)
    × AreStopped replies fault × Appends before after text
IsWritten requests replies sent text before after (Err Unwritten) = WentOutPast sent before after text
IsWritten requests replies sent text before after (Err (Unread fault)) = ⊥

-- Why a text is not read: it meets this fault first, the reader failed, or memory was wanting.
abbrev pub IsWhyUnread : Option (List ℕ) → ReadFault → Type 0
IsWhyUnread text fault = (fault ≡ Read) ⊎ (fault ≡ Memory) ⊎ IfSome text (λ t. MeetsFirst t fault)

-- what holds of each text whose list these requests are, and of a text that nobody knows
abbrev pub IsListOf : List Request → (Option (List ℕ) → Type 0) → Type 0
IsListOf requests of = (text : Option (List ℕ)) → IfSome text (λ t. IsList t requests) → of text

module _ {S : Type 0} (g : Ghosts S) where
  -- The first of the requests were carried out, one after the other, with a shelf that had failed so often before and
  -- after, and their lines were written.
  pub record IsReported (requests : List Request) (old new : Seen S) (failed fails : ℕ)
      (before after : Option (List ℕ)) (r : Result (Unit {0}) ImportFault) : Type 0 where
    pub replies : List (Result Receipt Refusal)
    pub some : length replies ≤ length requests
    pub ran : IsRun g (take (length replies) requests) old replies new failed fails
    pub written : IsWritten requests replies (lines_before requests replies) (report_lines 1 requests replies) before
        after r

  -- The same with the header line before. Where that could not be written, there are no replies.
  pub record IsImported (requests : List Request) (old new : Seen S) (failed fails : ℕ)
      (before after : Option (List ℕ)) (r : Result (Unit {0}) ImportFault) : Type 0 where
    pub replies : List (Result Receipt Refusal)
    pub some : length replies ≤ length requests
    pub ran : IsRun g (take (length replies) requests) old replies new failed fails
    pub written : IsWritten requests replies (report_before requests replies) (report_of requests replies) before
        after r

  -- An import of a text: of a list that is read, its requests are carried out and reported. Of one that is not,
  -- nothing is carried out and nothing is written.
  abbrev pub Imports : {W : Type 0} → Option (List ℕ) → Seen S → Seen S → ℕ → ℕ → W → W
      → Option (List ℕ)
      → Option (List ℕ) → Result (Unit {0}) ImportFault → Type 0
  Imports text old new failed fails writer writer' before after (Err (Unread fault)) = IsWhyUnread text fault
      × (new ≡ old) × (fails ≡ failed) × (writer' ≡ writer)
  Imports text old new failed fails writer writer' before after (Err (Stopped n fault)) = (requests : List Request)
      × IfSome text (λ t. IsList t requests) × IsImported requests old new failed fails before after
      (Err (Stopped n fault))
  Imports text old new failed fails writer writer' before after (Err Unwritten) = (requests : List Request)
      × IfSome text (λ t. IsList t requests) × IsImported requests old new failed fails before after (Err Unwritten)
  Imports text old new failed fails writer writer' before after (Ok x) = (requests : List Request)
      × IfSome text (λ t. IsList t requests) × IsImported requests old new failed fails before after (Ok x)

  -- Requests that are a list already are carried out and reported. Where memory for a line is wanting, nothing is
  -- carried out.
  abbrev pub IsCarried : List Request → Seen S → Seen S → ℕ → ℕ → Option (List ℕ) → Option (List ℕ)
      → Result (Unit {0}) ImportFault → Type 0
  IsCarried requests old new failed fails before after (Err (Unread fault)) = (fault ≡ Memory) × (new ≡ old)
  IsCarried requests old new failed fails before after (Err (Stopped n fault)) =
      IsImported requests old new failed fails before after (Err (Stopped n fault))
  IsCarried requests old new failed fails before after (Err Unwritten) =
      IsImported requests old new failed fails before after (Err Unwritten)
  IsCarried requests old new failed fails before after (Ok x) =
      IsImported requests old new failed fails before after (Ok x)

  module _ {H : Type 0} (Asks : List ℕ → H → H → Type 0) (Takes : List ℕ → S → H → H → Type 0)
      (Fails : H → ℕ) where
    -- What goes with the replies of a run: step by step, what the shelf was asked for and given back; and what the
    -- teller was told, of so many requests. A step that ends in a refusal, or in a receipt that was there before, does
    -- not use the shelf.
    pub record GoesWith (all : ℕ) (requests : List Request) (old new : Seen S)
        (replies : List (Result Receipt Refusal))
        (gone : List (Held S)) (shelf shelf' : H) (heard heard' : Option (List Told))
        (r : Result (Unit {0}) ImportFault) : Type 0 where
      pub uses : AreStepsWith g Asks Takes Fails requests old replies new gone shelf shelf'
      pub told : AreTold all replies heard heard' r

    -- The first of the requests were carried out and their lines written, and that goes with this run of them.
    abbrev pub IsReportedWith : ℕ → List Request → Seen S → Seen S → H → H → Option (List ℕ)
        → Option (List ℕ)
        → Option (List Told) → Option (List Told) → Result (Unit {0}) ImportFault → Type 0
    IsReportedWith all requests old new shelf shelf' before after heard heard' r =
        (it : IsReported requests old new (Fails shelf) (Fails shelf') before after r)
        × GoesWith all (take (length it.replies) requests) old new it.replies it.ran.gone shelf shelf' heard heard' r

    -- The same with the header line before.
    abbrev pub IsImportedWith : ℕ → List Request → Seen S → Seen S → H → H → Option (List ℕ)
        → Option (List ℕ)
        → Option (List Told) → Option (List Told) → Result (Unit {0}) ImportFault → Type 0
    IsImportedWith all requests old new shelf shelf' before after heard heard' r =
        (it : IsImported requests old new (Fails shelf) (Fails shelf') before after r)
        × GoesWith all (take (length it.replies) requests) old new it.replies it.ran.gone shelf shelf' heard heard' r

    -- An import of a text, with its shelf and its teller. By a list that is not read the shelf is not used, and the
    -- teller is told nothing.
    abbrev pub ImportsWith : Option (List ℕ) → Seen S → Seen S → H → H → Option (List ℕ)
        → Option (List ℕ)
        → Option (List Told) → Option (List Told) → Result (Unit {0}) ImportFault → Type 0
    ImportsWith text old new shelf shelf' before after heard heard' (Err (Unread fault)) = (shelf' ≡ shelf)
        × Tells heard heard' []
    ImportsWith text old new shelf shelf' before after heard heard' r = (requests : List Request)
        × IfSome text (λ t. IsList t requests)
        × IsImportedWith (length requests) requests old new shelf shelf' before after heard heard' r
