-- What an import makes of a world, and what it writes, where the list is read twice in place of being held. Profile.
use Rattle.std.specs.Prelude.{◌≡◌, ◌⊎◌, ◌≤◌, ◌<◌, ℕ, List, [], ◌∷◌, ◌++◌, Option}
use Rattle.std.specs.Prelude.{Result, Ok, Err, IfSome, length, take}
use Rattle.sqlite.specs.Store.{Ghosts}
use Rattle.sheet_types.specs.declared.command.Request.{Request}
use Rattle.world.specs.Worlds.{Seen}
use Rattle.request_csv.specs.ListReading.{IsBegun, IsListOfSo}
use Rattle.request_csv.specs.RequestLists.{IsList, MeetsFirst}
use Rattle.request_csv.specs.declared.lists.ReadFault.{ReadFault}
use Rattle.request_csv.specs.declared.lists.ReadFault.TheVariants.{Read, Memory}
use Rattle.manifest_csv.specs.Imports.{Imports, IsImported, IsImportedWith, IsWhyUnread}
use Rattle.manifest_csv.specs.Progress.{Tells, Told}
use Rattle.manifest_csv.specs.declared.importing.ImportFault.{ImportFault}
use Rattle.manifest_csv.specs.declared.importing.ImportFault.TheVariants.{Unread}
use Rattle.request_imports.specs.declared.twice.TwiceFault.{TwiceFault}
use Rattle.request_imports.specs.declared.twice.TwiceFault.TheVariants.{Import, Changed, Broken}

-- how the import of the requests that were read ended: where the second reading ended otherwise than the first, all of
-- them were carried out
abbrev pub as_import : Result (Unit {0}) TwiceFault → Result (Unit {0}) ImportFault
as_import (Ok x) = Ok x
as_import (Err (Import fault)) = Err fault
as_import (Err (Changed n)) = Ok tt
as_import (Err (Broken n fault)) = Ok tt

-- a text that begins as a list of these requests, and is no list of so many: it ends with them, or goes on where they
-- are so many
abbrev pub IsOther : ℕ → List Request → List ℕ → Type 0
IsOther count requests text = ((length requests < count) × IsList text requests)
    ⊎ ((length requests ≡ count) × IsBegun text requests × ((more : Request)
    × IsBegun text (requests ++ more ∷ [])))

-- what the end of a second reading tells of its text, where the first had so many requests, and these were carried out
abbrev pub Ends : Option (List ℕ) → ℕ → List Request → Result (Unit {0}) TwiceFault → Type 0
Ends text count requests (Ok x) = (length requests ≡ count) × IfSome text (λ t. IsList t requests)
Ends text count requests (Err (Import fault)) = (length requests ≤ count) × IfSome text (λ t. IsBegun t requests)
Ends text count requests (Err (Changed n)) = (length requests ≡ n) × IfSome text (IsOther count requests)
Ends text count requests (Err (Broken n fault)) = (length requests ≡ n) × (n ≤ count)
    × IfSome text (λ t. IsBegun t requests)
    × ((fault ≡ Memory) ⊎ (fault ≡ Read) ⊎ IfSome text (λ t. MeetsFirst t fault))

-- a second reading that ended otherwise than the first, after so many requests
abbrev pub BreaksAt : ℕ → TwiceFault → Type 0
BreaksAt done why = (why ≡ Changed done) ⊎ ((met : ReadFault) × (why ≡ Broken done met))

-- a list was not read, at the first reading or at its header at the second
abbrev pub WasUnread : Result (Unit {0}) TwiceFault → Type 0
WasUnread r = (fault : ReadFault) × (r ≡ Err (Import (Unread fault)))

module _ {S : Type 0} (g : Ghosts S) where
  -- Of a first and a second text: where either is not read, nothing is carried out and nothing is written. Else the
  -- first is a list of so many requests, and these are the requests at the start of the second text that were read.
  abbrev pub ImportsTwice : {W : Type 0} → Option (List ℕ) → Option (List ℕ) → Seen S → Seen S → ℕ
      → ℕ → W → W
      → Option (List ℕ) → Option (List ℕ) → Result (Unit {0}) TwiceFault → Type 0
  ImportsTwice text again old new failed fails writer writer' before after r =
      ((fault : ReadFault) × (r ≡ Err (Import (Unread fault)))
      × (IsWhyUnread text fault ⊎ IsWhyUnread again fault)
      × (new ≡ old) × (fails ≡ failed) × (writer' ≡ writer))
      ⊎ ((count : ℕ) × IsListOfSo count text × ((requests : List Request) × Ends again count requests r
      × IsImported g requests old new failed fails before after (as_import r)))

  -- The same with its shelf and its teller, of one run. The teller is told of as many requests in all as the first text
  -- has. By a list that was not read the shelf was not used, and the teller was told nothing.
  abbrev pub ImportsTwiceWith : {H : Type 0} → (List ℕ → H → H → Type 0)
      → (List ℕ → S → H → H → Type 0)
      → (H → ℕ) → Option (List ℕ) → Option (List ℕ) → Seen S → Seen S → H → H → Option (List ℕ)
      → Option (List ℕ)
      → Option (List Told) → Option (List Told) → Result (Unit {0}) TwiceFault → Type 0
  ImportsTwiceWith Asks Takes Fails text again old new shelf shelf' before after heard heard' r =
      (WasUnread r × (shelf' ≡ shelf) × Tells heard heard' [])
      ⊎ ((count : ℕ) × IsListOfSo count text × ((requests : List Request) × Ends again count requests r
      × IsImportedWith g Asks Takes Fails count requests old new shelf shelf' before after heard heard' (as_import r)))

  -- What an import makes of a list that is the same at both readings: what one of a list that is held makes, or the
  -- second reading broke off, by a reader that failed or by want of memory, and so many of its first requests were
  -- carried out.
  abbrev pub ImportsOnce : {W : Type 0} → Option (List ℕ) → Seen S → Seen S → ℕ → ℕ → W → W
      → Option (List ℕ)
      → Option (List ℕ)
      → Result (Unit {0}) TwiceFault → Type 0
  ImportsOnce text old new failed fails writer writer' before after (Ok x) =
      Imports g text old new failed fails writer writer' before after (Ok x)
  ImportsOnce text old new failed fails writer writer' before after (Err (Import fault)) =
      Imports g text old new failed fails writer writer' before after (Err fault)
  ImportsOnce text old new failed fails writer writer' before after (Err (Changed n)) = IfSome text (λ t. ⊥)
  ImportsOnce text old new failed fails writer writer' before after (Err (Broken n fault)) =
      IfSome text (λ t. (fault ≡ Memory) ⊎ (fault ≡ Read)) ×
      ((requests : List Request) × IfSome text (λ t. IsList t requests)
      × (n ≤ length requests) × IsImported g (take n requests) old new failed fails before after (Ok tt))
