-- What a rehearsal comes to, and what it prints. Profile.
use Rattle.std.specs.Prelude.{◌≡◌, ◌≢◌, ◌⊎◌, ◌≤◌, ℕ, List, ◌++◌, codes, flat_map}
use Rattle.std.specs.Prelude.{length, map, take, Option, Result}
use Rattle.std.specs.Prelude.{IfSome, MatchResult}
use Rattle.std.specs.List.{AllByRecursion}
use Rattle.std.specs.Io.KnownBytes.{Appends}
use Rattle.sqlite.specs.Held.{Held, state}
use Rattle.sqlite.specs.State.{HasCleanDisk}
use Rattle.sqlite.specs.Store.{Ghosts}
use Rattle.package_tables.specs.declared.fault.Fault.{Fault}
use Rattle.sheet_types.specs.Ordered.{IsArranged}
use Rattle.sheet_types.specs.Step.{Run}
use Rattle.sheet_types.specs.Texts.{uuid_text}
use Rattle.sheet_types.specs.World.{World, package_key}
use Rattle.sheet_types.specs.declared.command.Request.{Request}
use Rattle.sheet_types.specs.declared.receipt.Receipt.{Receipt}
use Rattle.sheet_types.specs.declared.refusal.Refusal.{Refusal}
use Rattle.world_members.specs.Members.{AllClean}
use Rattle.world.specs.Worlds.{Seen, StandsFor}
use Rattle.manifest_csv.specs.Imports.{AreStopped, GoesOn, IsWhyUnread, report_before}
use Rattle.manifest_csv.specs.PackageManifests.{manifest}
use Rattle.manifest_csv.specs.Reports.{report_of}
use Rattle.request_csv.specs.RequestLists.{IsList}
use Rattle.manifest_csv.specs.Sent.{WentOut, WentOutPast}
use Rattle.request_csv.specs.declared.lists.ReadFault.{ReadFault}
use Rattle.request_csv.specs.declared.lists.ReadFault.TheVariants.{Memory}
use Rattle.command_words.specs.Failures.{of_fault}
use Rattle.command_words.specs.declared.statuses.What.TheVariants.{BadList}
use Rattle.command_words.specs.declared.statuses.Failure.{Failure}
use Rattle.command_words.specs.declared.statuses.Failure.TheVariants.{StoreFault}
use Rattle.command_words.specs.declared.statuses.Outcome.{Outcome}
use Rattle.command_words.specs.declared.statuses.Outcome.TheVariants.{Done, Refused, Stopped}

-- the line that names a package, before its manifest
abbrev pub package_line : List ℕ → List ℕ
package_line uuid = codes "package " ++ (uuid_text uuid ++ codes "\n")

-- a package of a world: the line that names it, and its manifest
abbrev pub package_text : World → List ℕ → List ℕ
package_text w uuid = package_line uuid ++ manifest w uuid

-- each of these packages in turn
abbrev pub packages_text : World → List (List ℕ) → List ℕ
packages_text w uuids = flat_map (package_text w) uuids

-- a world's packages are in the order of their UUIDs, each once
abbrev pub AreInOrder : World → Type 0
AreInOrder w = IsArranged package_key w.packages

-- all live packages of a world, in its order
abbrev pub live_text : World → List ℕ
live_text w = packages_text w (map (λ p. p.uuid) w.packages)

module _ {S : Type 0} (g : Ghosts S) where
  -- stores that are in memory: no disk of theirs ever lied
  abbrev pub IsInMemory : Type 0
  IsInMemory = (h : Held S) → HasCleanDisk (state g h)

  -- A value stands for each world that another stood for, and no disk of that had lied that does not now.
  abbrev pub StandsOn : Seen S → Seen S → Type 0
  StandsOn old new = (AllClean g new.members → AllClean g old.members)
      × ((w : World) → StandsFor g old w → StandsFor g new w)

  -- What is due is written whole, or a beginning of it and not all after a failure: due of each world that a value
  -- stood for, where each disk has given back what was written.
  abbrev pub Writes : (World → List ℕ) → Seen S → Seen S → Option (List ℕ) → Option (List ℕ)
      → Result (Unit {0}) Failure → Type 0
  Writes due old new before after r = AllClean g new.members → (w : World) → StandsFor g old w
      → MatchResult r (λ _. Appends before after (due w)) (λ _. WentOut before after (due w))

-- The requests of a list, of which a world carried out as many as there are replies, in their order; the replies, and
-- the world afterwards.
pub record Ran (w : World) (text : Option (List ℕ)) : Type 0 where
  pub requests : List Request
  pub list : IfSome text (λ t. IsList t requests)
  pub replies : List (Result Receipt Refusal)
  pub next : World
  pub some : length replies ≤ length requests
  pub run : Run w (take (length replies) requests) replies next

-- each request has its reply, and none of them is want of memory or a fault of the store
abbrev pub IsComplete : {w : World} {text : Option (List ℕ)} → Ran w text → Type 0
IsComplete ran = (length ran.replies ≡ length ran.requests) × AllByRecursion GoesOn ran.replies

abbrev pub report : {w : World} {text : Option (List ℕ)} → Ran w text → List ℕ
report ran = report_of ran.requests ran.replies

-- the report, and after it each live package
abbrev pub printed : {w : World} {text : Option (List ℕ)} → Ran w text → List ℕ
printed ran = report ran ++ live_text ran.next

-- A rehearsal that stopped: before it wrote anything; at a request, whose line is then the last; in the report, which
-- the writer did not take; or among the packages, after the whole report.
abbrev pub Stops : {W : Type 0} → World → Option (List ℕ) → W → W → Option (List ℕ)
    → Option (List ℕ) → Failure → Type 0
Stops w text writer writer' before after failure =
    (writer' ≡ writer)
    ⊎ ((ran : Ran w text) × (fault : Fault) × AreStopped ran.replies fault × (failure ≡ of_fault fault)
    × Appends before after (report ran))
    ⊎ ((ran : Ran w text) × (failure ≡ StoreFault) × WentOutPast (report_before ran.requests ran.replies) before
    after
    (report ran))
    ⊎ ((ran : Ran w text) × IsComplete ran × WentOutPast (report ran) before after (printed ran))

-- A rehearsal over a new world w, of the text that a reader tells, with what a writer held before and holds after.
-- Where it is done, the list was carried out whole, and the report and all live packages, in the order of their
-- UUIDs, were written. Where the list is refused, nothing is written, and it is told why it was not read.
abbrev pub Rehearses : {W : Type 0} → World → Option (List ℕ) → W → W → Option (List ℕ)
    → Option (List ℕ) → Outcome
    → Type 0
Rehearses w text writer writer' before after Done = (ran : Ran w text) × IsComplete ran × AreInOrder ran.next
    × Appends before after (printed ran)
Rehearses w text writer writer' before after (Refused what) = (what ≡ BadList) × (writer' ≡ writer)
    × ((fault : ReadFault) × (fault ≢ Memory) × IsWhyUnread text fault)
Rehearses w text writer writer' before after (Stopped failure) = Stops w text writer writer' before after failure
