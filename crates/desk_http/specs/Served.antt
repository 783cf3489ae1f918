-- What the desk makes of a connection's bytes and of a world: the bytes that go out, and the world afterwards. Profile.
use Rattle.std.specs.Prelude.{◌≡◌, ◌≢◌, ◌⊎◌, ◌≤◌, ℕ, Bool, true, false, List, [], Option}
use Rattle.std.specs.Prelude.{Some, None, Result, Ok, Err}
use Rattle.std.specs.Prelude.{IfSome}
use Rattle.std.specs.Io.KnownBytes.{Appends}
use Rattle.sqlite.specs.Held.{Held}
use Rattle.sqlite.specs.Store.{Ghosts}
use Rattle.sqlite_disk.specs.Disk.{MoreFaults}
use Rattle.sheet_types.specs.Answers.{receipt_answer}
use Rattle.sheet_types.specs.Step.{IsFault, Step}
use Rattle.sheet_types.specs.World.{World, is_live}
use Rattle.sheet_types.specs.declared.command.Request.{Request}
use Rattle.sheet_types.specs.declared.receipt.Receipt.{Receipt}
use Rattle.sheet_types.specs.declared.refusal.Refusal.{Refusal}
use Rattle.sheet_types.specs.declared.refusal.Refusal.TheVariants.{StoreFault}
use Rattle.world_changes.specs.Leaving.{AreClean}
use Rattle.world_members.specs.Members.{AllClean}
use Rattle.world.specs.Worlds.{IsRead, IsStep, LeavesNoTrace, Seen, StandsFor, StandsStill}
use Rattle.manifest_csv.specs.PackageManifests.{manifest}
use Rattle.manifest_csv.specs.Sent.{WentOut}
use Rattle.desk_calls.specs.Calls.{IsCall}
use Rattle.desk_calls.specs.declared.calls.Call.{Call}
use Rattle.desk_calls.specs.declared.calls.Call.TheVariants as call
use Rattle.desk_calls.specs.declared.calls.Flaw.{Flaw}
use Rattle.desk_calls.specs.declared.calls.Flaw.TheVariants as flaw
use Rattle.desk_replies.specs.Responses.{IsReply, fixed_response, manifest_response, packages_response}
use Rattle.desk_replies.specs.Responses.{receipt_response}
use Rattle.desk_replies.specs.declared.fixed.Fixed.{Fixed}
use Rattle.desk_replies.specs.declared.fixed.Fixed.TheVariants as fixed
use Rattle.desk_http.specs.declared.serving.Served.{Served}
use Rattle.desk_http.specs.declared.serving.Served.TheVariants.{Nothing, Answered}
use Rattle.desk_http.specs.declared.serving.ServeFault.{ServeFault}
use Rattle.desk_http.specs.declared.serving.ServeFault.TheVariants.{Read, Write}

-- ---- in the model's words

-- the response to a check that failed
abbrev pub fixed_of : Flaw → Fixed
fixed_of flaw.BadOrigin = fixed.BadOrigin
fixed_of flaw.BadRequest = fixed.BadRequest
fixed_of flaw.NoSuchPath = fixed.NoSuchPath
fixed_of flaw.BadMethod = fixed.BadMethod
fixed_of flaw.NoLength = fixed.NoLength
fixed_of flaw.TooLarge = fixed.TooLarge

-- in place of any answer that a world gives: want of memory, or a store that failed
abbrev pub IsFaultText : List ℕ → Type 0
IsFaultText out = (out ≡ fixed_response fixed.OutOfMemory) ⊎ (out ≡ fixed_response fixed.StoreFault)

-- the manifest of a package, by whether it is live
abbrev pub manifest_answer : Bool → World → List ℕ → List ℕ
manifest_answer true w p = manifest_response (manifest w p)
manifest_answer false w p = fixed_response fixed.NoSuchPackage

-- a kept receipt, if there is one; memory may be wanting for its text, and it stands
abbrev pub IsReceiptText : Option Receipt → List ℕ → Type 0
IsReceiptText (Some receipt) out = (out ≡ receipt_response receipt) ⊎ (out ≡ fixed_response fixed.AskAgain)
IsReceiptText None out = out ≡ fixed_response fixed.NoSuchReceipt

-- what a world answers that stays as it is
abbrev pub IsAnswer : World → Call → List ℕ → Type 0
IsAnswer w (call.Refused flaw) out = out ≡ fixed_response (fixed_of flaw)
IsAnswer w (call.Apply request) out = ⊥
IsAnswer w call.Packages out = out ≡ packages_response w
IsAnswer w (call.Manifest None) out = out ≡ fixed_response fixed.NoSuchPackage
IsAnswer w (call.Manifest (Some p)) out = out ≡ manifest_answer (is_live w p) w p
IsAnswer w (call.Receipt None) out = out ≡ fixed_response fixed.NoSuchReceipt
IsAnswer w (call.Receipt (Some id)) out = IsReceiptText (receipt_answer w id) out

-- What becomes of a call: a request is a step, and nothing else changes the world.
abbrev pub Serves : World → Call → List ℕ → World → Type 0
Serves w (call.Apply request) out next = (reply : Result Receipt Refusal) × Step w request reply next
    × IsReply reply out
Serves w (call.Refused flaw) out next = (next ≡ w) × IsAnswer w (call.Refused flaw) out
Serves w call.Packages out next = (next ≡ w) × (IsAnswer w call.Packages out ⊎ IsFaultText out)
Serves w (call.Manifest id) out next = (next ≡ w) × (IsAnswer w (call.Manifest id) out ⊎ IsFaultText out)
Serves w (call.Receipt id) out next = (next ≡ w) × (IsAnswer w (call.Receipt id) out ⊎ IsFaultText out)

-- A desk's own address, the bytes of a connection in a world, the bytes that go out, and the world afterwards. Any
-- input but the empty one may find no memory, and then nothing has changed.
abbrev pub IsServed : List ℕ → World → List ℕ → List ℕ → World → Type 0
IsServed own w xs out next =
    ((xs ≡ []) × (out ≡ []) × (next ≡ w))
    ⊎ ((asked : Call) × IsCall own xs asked × Serves w asked out next)
    ⊎ ((xs ≢ []) × (out ≡ fixed_response fixed.OutOfMemory) × (next ≡ w))

-- Nothing is written where there was no byte or the reader failed.
abbrev pub WritesNothing : {W : Type 0} → W → W → Result Served ServeFault → Type 0
WritesNothing old new (Ok Nothing) = new ≡ old
WritesNothing old new (Ok Answered) = Unit {0}
WritesNothing old new (Err Read) = new ≡ old
WritesNothing old new (Err Write) = Unit {0}

-- ---- of a value of `World`

module _ {S : Type 0} (g : Ghosts S) where
  -- A request was handed to the world, which gave this reply. before and after are how often the shelf had failed.
  pub record Applies (request : Request) (old : Seen S) (reply : Result Receipt Refusal) (new : Seen S)
      (before after : ℕ) : Type 0 where
    pub step : IsStep g request old reply new
    pub still : StandsStill g old reply new
    pub unharmed : LeavesNoTrace g old reply new
    pub failed : old.has_failed ≡ true → (reply ≡ Err StoreFault) × (new ≡ old) × (after ≡ before)
    pub cause : reply ≡ Err StoreFault → (new.has_failed ≡ true) ⊎ MoreFaults before after
    pub usable : ¬ IsFault reply → new.has_failed ≡ old.has_failed
    pub shelf : before ≤ after

  -- The world was only read, if at all, and this is its answer.
  pub record Tells (asked : Call) (old : Seen S) (out : List ℕ) (new : Seen S) : Type 0 where
    pub read : (new ≡ old) ⊎ IsRead g old new
    pub told : AllClean g new.members → (w : World) → StandsFor g old w → IsAnswer w asked out ⊎ IsFaultText out

  -- what was made of a call
  abbrev pub Answers : Call → Seen S → List ℕ → Seen S → ℕ → ℕ → Type 0
  Answers (call.Refused flaw) old out new before after = (new ≡ old) × (out ≡ fixed_response (fixed_of flaw))
  Answers (call.Apply request) old out new before after = (reply : Result Receipt Refusal)
      × Applies request old reply new before after × IsReply reply out
  Answers call.Packages old out new before after = Tells call.Packages old out new
  Answers (call.Manifest id) old out new before after = Tells (call.Manifest id) old out new
  Answers (call.Receipt id) old out new before after = Tells (call.Receipt id) old out new

  -- the bytes due for those of a connection, where these are known
  abbrev pub IsDue : List ℕ → Option (List ℕ) → Seen S → List ℕ → Seen S → ℕ → ℕ → Type 0
  IsDue own text old out new before after =
      ((asked : Call) × IfSome text (λ xs. IsCall own xs asked) × Answers asked old out new before after)
      ⊎ (IfSome text (λ xs. xs ≢ []) × (out ≡ fixed_response fixed.OutOfMemory) × (new ≡ old))

  -- What was made of a connection. own is the desk's address, text all the bytes of the connection's reader; held and
  -- holds are what its writer has before and after.
  abbrev pub Serving : List ℕ → Option (List ℕ) → Seen S → Seen S → ℕ → ℕ → Option (List ℕ)
      → Option (List ℕ)
      → Result Served ServeFault → Type 0
  Serving own text old new before after held holds (Ok Nothing) = IfSome text (λ xs. xs ≡ []) × (new ≡ old)
  Serving own text old new before after held holds (Ok Answered) =
      (out : List ℕ) × IsDue own text old out new before after × Appends held holds out
  Serving own text old new before after held holds (Err Read) = new ≡ old
  Serving own text old new before after held holds (Err Write) =
      (out : List ℕ) × IsDue own text old out new before after × WentOut held holds out

  -- ---- a law

  -- What is due is what is served, in each world that the value stood for, where each disk has given back what was
  -- written, those of dropped connections (gone) too.
  abbrev pub DueIsServed : Type 0
  DueIsServed = (own xs : List ℕ) (old new : Seen S) (out : List ℕ) (before after : ℕ)
      → IsDue own (Some xs) old out new before after
      → (gone : List (Held S)) × (AllClean g new.members → AreClean g gone → (w : World) → StandsFor g old w
      → (next : World) × IsServed own w xs out next × StandsFor g new next)
