-- What the subcommands that change a world make of it, what they print, and how they end. Profile.
use Rattle.std.specs.Prelude.{◌≡◌, ◌⊎◌, [], ℕ, List, Option, Result, Ok, Err, IfSome, false}
use Rattle.sqlite.specs.Held.{Held}
use Rattle.sqlite.specs.Store.{Ghosts}
use Rattle.sheet_types.specs.World.{new_world}
use Rattle.sheet_types.specs.declared.command.Request.{Request}
use Rattle.sheet_types.specs.declared.frame.Frame.{Frame}
use Rattle.sheet_types.specs.declared.receipt.Receipt.{Receipt}
use Rattle.sheet_types.specs.declared.refusal.Refusal.{Refusal}
use Rattle.request_json.specs.Requests.{IsRequestText}
use Rattle.world_members.specs.Members.{AllClean, AllMadeAt, AllOpen}
use Rattle.world.specs.Worlds.{IsStep, LeavesNoTrace, Seen, StandsFor, StandsStill, held}
use Rattle.manifest_csv.specs.Imports.{Imports}
use Rattle.request_imports.specs.Twice.{ImportsTwice}
use Rattle.request_imports.specs.declared.twice.TwiceFault.{TwiceFault}
use Rattle.request_imports.specs.declared.twice.TwiceFault.TheVariants as twice
use Rattle.manifest_csv.specs.declared.importing.ImportFault.{ImportFault}
use Rattle.manifest_csv.specs.declared.importing.ImportFault.TheVariants as import
use Rattle.request_csv.specs.declared.lists.ReadFault.TheVariants.{Header, Record, Read, Memory}
use Rattle.desk_http.specs.Connections.{IsServedBy, Serves}
use Rattle.desk_http.specs.declared.connections.DeskFault.{DeskFault}
use Rattle.command_words.specs.Failures.{of_fault}
use Rattle.command_words.specs.declared.statuses.Failure.{Failure}
use Rattle.command_words.specs.declared.statuses.Outcome.TheVariants.{Stopped}
use Rattle.command_folder.specs.Endings.{done, failed, no_memory}
use Rattle.command_folder.specs.Printing.{Prints}
use Rattle.command_folder.specs.Bodies.{IsUnread}
use Rattle.command_folder.specs.Replies.{PrintsReply}
use Rattle.commands.specs.Printing.{archive_line}
use Rattle.command_folder.specs.declared.endings.Ending.{Ending}
use Rattle.command_folder.specs.declared.endings.Ending.TheVariants.{Usual, BadBody, HoldsPackages, Unlisted, Unopened}
use Rattle.command_folder.specs.declared.endings.OpenFault.{OpenFault}

-- ---- init

-- why no archive was made, or none that is known to last
abbrev pub IsUnmade : Ending → Type 0
IsUnmade ending =
    (ending ≡ HoldsPackages)
    ⊎ ((fault : OpenFault) × (ending ≡ Unopened fault))
    ⊎ ((failure : Failure) × (ending ≡ Usual (Stopped failure)))

-- ---- apply

-- why a body is no request, or is not known to be one
abbrev pub IsWhyUnasked : List ℕ → Ending → Type 0
IsWhyUnasked text ending = (ending ≡ no_memory) ⊎ ((ending ≡ BadBody)
    × ((q : Request) → ¬ IsRequestText text q))

-- ---- import

abbrev pub import_ending : Result (Unit {0}) ImportFault → Ending
import_ending (Ok x) = done
import_ending (Err (import.Unread Memory)) = no_memory
import_ending (Err (import.Unread Header)) = Unlisted Header
import_ending (Err (import.Unread (Record n))) = Unlisted (Record n)
import_ending (Err (import.Unread Read)) = Unlisted Read
import_ending (Err (import.Stopped n fault)) = Usual (Stopped (of_fault fault))
import_ending (Err import.Unwritten) = failed

-- the same of a list that is read twice; one that was another at the second reading is a file that gave out
abbrev pub twice_ending : Result (Unit {0}) TwiceFault → Ending
twice_ending (Ok x) = done
twice_ending (Err (twice.Import fault)) = import_ending (Err fault)
twice_ending (Err (twice.Changed n)) = failed
twice_ending (Err (twice.Broken n Memory)) = no_memory
twice_ending (Err (twice.Broken n Header)) = failed
twice_ending (Err (twice.Broken n (Record k))) = failed
twice_ending (Err (twice.Broken n Read)) = failed

-- why there is no list
abbrev pub IsUnlisted : Ending → Type 0
IsUnlisted ending = (ending ≡ no_memory) ⊎ (ending ≡ Unlisted Read)

-- ---- serve

abbrev pub serve_ending : Result (Unit {0}) DeskFault → Ending
serve_ending (Ok x) = done
serve_ending (Err fault) = failed

module _ {S : Type 0} (g : Ghosts S) where
  -- ---- init

  -- The world of an archive with nothing in it, made at this moment, in one store, which is open: all that where its
  -- disk has given back what was written. It can be used, and has no store beside.
  pub record IsNew (archive at : List ℕ) (f : Frame) (seen : Seen S) : Type 0 where
    pub usable : seen.has_failed ≡ false
    pub alone : seen.strays ≡ []
    pub made : AllClean g seen.members → StandsFor g seen (new_world archive f)
    pub dated : AllClean g seen.members → AllMadeAt g f at seen.members
    pub opens : AllClean g seen.members → AllOpen g seen.members

  -- the stores of such a world, all of them
  abbrev pub AreNewStores : List ℕ → List ℕ → Frame → List (Held S) → Type 0
  AreNewStores archive at f stores = (seen : Seen S) × IsNew archive at f seen × (stores ≡ held g seen)

  -- it was made, of some stores
  abbrev pub IsFounded : List ℕ → List ℕ → Frame → Type 0
  IsFounded archive at f = (stores : List (Held S)) × AreNewStores archive at f stores

  -- The archive was made, and the line that names it is printed; or it was not made, or is not known to last, and
  -- nothing was written.
  abbrev pub Inits : {W : Type 0} → List ℕ → List ℕ → Frame → W → W → Option (List ℕ) → Option (List ℕ) → Ending
      → Type 0
  Inits archive at f writer writer' before after ending =
      (IsFounded archive at f × Prints (archive_line archive) done before after ending)
      ⊎ (IsUnmade ending × (writer' ≡ writer))

  -- ---- apply

  -- A request that was carried out, and its reply as a line.
  pub record IsApplied (q : Request) (old new : Seen S) (before after : Option (List ℕ)) (ending : Ending) :
      Type 0 where
    pub reply : Result Receipt Refusal
    pub step : IsStep g q old reply new
    pub still : StandsStill g old reply new
    pub unharmed : LeavesNoTrace g old reply new
    pub printed : PrintsReply reply before after ending

  -- One request was read and carried out; or none was read, and nothing was done or written.
  abbrev pub Applies : {W : Type 0} → Option (List ℕ) → Seen S → Seen S → W → W → Option (List ℕ)
      → Option (List ℕ)
      → Ending → Type 0
  Applies text old new writer writer' before after ending =
      (IsUnread ending × (new ≡ old) × (writer' ≡ writer))
      ⊎ ((q : Request) × IfSome text (λ t. IsRequestText t q) × IsApplied q old new before after ending)

  -- what an import makes of a world and writes, and how the program ends then
  abbrev pub EndsImport : {W : Type 0} → Option (List ℕ) → Seen S → Seen S → ℕ → ℕ → W → W
      → Option (List ℕ)
      → Option (List ℕ) → Ending → Type 0
  EndsImport text old new faults more writer writer' before after ending =
      (r : Result (Unit {0}) ImportFault) × (ending ≡ import_ending r)
      × Imports g text old new faults more writer writer' before after r

  -- the same of a list that is read twice, of some text at either reading
  abbrev pub EndsTwice : {W : Type 0} → Option (List ℕ) → Option (List ℕ) → Seen S → Seen S → ℕ
      → ℕ → W → W
      → Option (List ℕ) → Option (List ℕ) → Ending → Type 0
  EndsTwice text again old new faults more writer writer' before after ending =
      (r : Result (Unit {0}) TwiceFault) × (ending ≡ twice_ending r)
      × ImportsTwice g text again old new faults more writer writer' before after r

  -- The same of a file, of some text, or of two where it is read twice; or the file could not be opened, and nothing
  -- was done or written.
  abbrev pub ImportsFile : {W : Type 0} → Seen S → Seen S → W → W → Option (List ℕ) → Option (List ℕ)
      → Ending → Type 0
  ImportsFile old new writer writer' before after ending =
      (IsUnlisted ending × (new ≡ old) × (writer' ≡ writer))
      ⊎ ((text : Option (List ℕ)) × (faults more : ℕ) × EndsImport text old new faults more writer writer'
      before
      after ending)
      ⊎ ((text again : Option (List ℕ)) × (faults more : ℕ) × EndsTwice text again old new faults more writer
      writer'
      before after ending)

  -- A desk over so many connections ended so; or the port could not be had, and nothing was done.
  abbrev pub ServesOn : ℕ → Seen S → Seen S → Ending → Type 0
  ServesOn count old new ending =
      ((end : Result (Unit {0}) DeskFault) × (ending ≡ serve_ending end) × IsServedBy g count old new
      × Serves g count old new end)
      ⊎ ((ending ≡ failed) × (new ≡ old))
