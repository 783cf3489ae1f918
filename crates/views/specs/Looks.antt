-- What is looked at in a folder, what is printed of it, and how the program ends. Profile.
use Rattle.std.specs.Prelude.{◌≡◌, ◌⊎◌, ℕ, ℤ, List, Option, Some, None, option_map}
use Rattle.uuid.specs.Text.{parsed_hyphenated}
use Rattle.sqlite.specs.Held.{Held}
use Rattle.sqlite.specs.Store.{Ghosts}
use Rattle.world.specs.Worlds.{Seen, held}
use Rattle.command_words.specs.declared.statuses.Outcome.TheVariants.{Refused}
use Rattle.command_words.specs.declared.statuses.What.{What}
use Rattle.command_words.specs.declared.statuses.What.TheVariants.{BadNumber, BadUuid}
use Rattle.command_folder.specs.Folders.{IsFolderBeside}
use Rattle.command_folder.specs.declared.endings.Ending.{Ending as CommandEnding}
use Rattle.command_folder.specs.declared.endings.Ending.TheVariants as usual
use Rattle.command_folder.specs.declared.endings.OpenFault.{OpenFault}
use Rattle.view_text.specs.declared.ledgers.Excerpt.{Excerpt}
use Rattle.views.specs.Contents.{Gets}
use Rattle.views.specs.Excerpts.{AsksExcerpt}
use Rattle.views.specs.ExportEndings.{EndsExport}
use Rattle.views.specs.MapEndings.{EndsMap}
use Rattle.views.specs.Reports.{Audits, EndsManifest}
use Rattle.views.specs.Views.{ShowsLog, ShowsReceipt, ShowsStatus, ShowsWay, TellsLog, TellsStatus, TellsWay}
use Rattle.views.specs.Zooms.{AsksZoom}
use Rattle.views.specs.declared.endings.Ending.{Ending}
use Rattle.views.specs.declared.endings.Ending.TheVariants.{Usual}
use Rattle.views.specs.declared.looking.Asked.{Asked}
use Rattle.views.specs.declared.looking.Asked.TheVariants as asked
use Rattle.views.specs.declared.looking.Look.{Look}
use Rattle.views.specs.declared.looking.Look.TheVariants.{Status, Log, Get, Explain, Receipt, Manifest, Export, Map}
use Rattle.views.specs.declared.looking.Look.TheVariants.{Audit}

-- ---- the words

-- What the words ask to look at: a UUID with hyphens, or a zoom in plain decimal; and in which form it is told.
abbrev pub Asks : Asked → Look → Type 0
Asks (asked.Status form) (Status as_form) = as_form ≡ form
Asks (asked.Log form words) (Log as_form excerpt) = AsksExcerpt words excerpt × (as_form ≡ form)
Asks (asked.Get word) (Get text) = text.now ≡ word.now
Asks (asked.Explain form word) (Explain as_form id) = (parsed_hyphenated word.now ≡ Some id) × (as_form ≡ form)
Asks (asked.Receipt word) (Receipt id) = parsed_hyphenated word.now ≡ Some id
Asks (asked.Manifest word) (Manifest p) = parsed_hyphenated word.now ≡ Some p
Asks (asked.Export word) (Export p) = parsed_hyphenated word.now ≡ Some p
Asks (asked.Map word) (Map zoom) = AsksZoom (option_map (λ text. text.now) word) zoom
Asks asked.Audit Audit = Unit {0}
Asks words look = ⊥

-- a word that is no UUID
abbrev pub IsNoUuid : List ℕ → What → Type 0
IsNoUuid text what = (parsed_hyphenated text ≡ None) × (what ≡ BadUuid)

-- why the words ask for nothing
abbrev pub IsUnread : Asked → What → Type 0
IsUnread (asked.Status form) what = ⊥
IsUnread (asked.Log form words) what = ((excerpt : Excerpt) → ¬ AsksExcerpt words excerpt) × (what ≡ BadNumber)
IsUnread (asked.Get word) what = ⊥
IsUnread (asked.Explain form word) what = IsNoUuid word.now what
IsUnread (asked.Receipt word) what = IsNoUuid word.now what
IsUnread (asked.Manifest word) what = IsNoUuid word.now what
IsUnread (asked.Export word) what = IsNoUuid word.now what
IsUnread (asked.Map word) what =
    ((zoom : Option ℤ) → ¬ AsksZoom (option_map (λ text. text.now) word) zoom) × (what ≡ BadNumber)
IsUnread asked.Audit what = ⊥

-- ---- what is made of a world

module _ {S : Type 0} (g : Ghosts S) {W : Type 0} (strays : ℕ) (old : Seen S) (stores : List (Held S))
    (writer writer' : W) (before after : Option (List ℕ)) where
  -- What is looked at was printed, the program ends so, and these stores are left of the world. So many are beside it.
  abbrev pub Looked : Look → Ending → Type 0
  Looked (Status form) ending = ShowsStatus g form strays old stores writer writer' before after ending
  Looked (Log form excerpt) ending = ShowsLog g form excerpt old stores writer writer' before after ending
  Looked (Get word) ending =
      (new : Seen S) × (stores ≡ held g new)
      × Gets g word.now old new writer writer' before after ending
  Looked (Explain form id) ending = ShowsWay g form id old stores writer writer' before after ending
  Looked (Receipt id) ending =
      (new : Seen S) × (stores ≡ held g new)
      × ShowsReceipt g id old new writer writer' before after ending
  Looked (Manifest p) ending =
      (new : Seen S) × (told : CommandEnding) × (stores ≡ held g new) × (ending ≡ Usual told)
      × EndsManifest g p old new writer writer' before after told
  Looked (Export p) ending =
      (new : Seen S) × (told : CommandEnding) × (stores ≡ held g new) × (ending ≡ Usual told)
      × EndsExport g p old new writer writer' before after told
  Looked (Map zoom) ending =
      (new : Seen S) × (stores ≡ held g new)
      × EndsMap g zoom old new writer writer' before after ending
  Looked Audit ending =
      (told : CommandEnding) × (stores ≡ held g old) × (ending ≡ Usual told)
      × Audits g old writer writer' before after told

-- ---- of a world that stays

module _ {S : Type 0} (g : Ghosts S) {W : Type 0} (strays : ℕ) (old new : Seen S)
    (writer writer' : W) (before after : Option (List ℕ)) where
  -- What is looked at was printed, and the program ends so. So many stores are beside the world.
  abbrev pub LooksOver : Look → Ending → Type 0
  LooksOver (Status form) ending = TellsStatus g form strays old new writer writer' before after ending
  LooksOver (Log form excerpt) ending = TellsLog g form excerpt old new writer writer' before after ending
  LooksOver (Get word) ending = Gets g word.now old new writer writer' before after ending
  LooksOver (Explain form id) ending = TellsWay g form id old new writer writer' before after ending
  LooksOver (Receipt id) ending = ShowsReceipt g id old new writer writer' before after ending
  LooksOver (Manifest p) ending =
      (told : CommandEnding) × (ending ≡ Usual told)
      × EndsManifest g p old new writer writer' before after told
  LooksOver (Export p) ending =
      (told : CommandEnding) × (ending ≡ Usual told)
      × EndsExport g p old new writer writer' before after told
  LooksOver (Map zoom) ending = EndsMap g zoom old new writer writer' before after ending
  LooksOver Audit ending =
      (told : CommandEnding) × (new ≡ old) × (ending ≡ Usual told)
      × Audits g old writer writer' before after told

-- ---- and of a folder

-- how the program ends where a folder is not opened: an audit tells its fault
abbrev pub unopened : Look → OpenFault → Ending
unopened Audit fault = Usual (usual.Faulted fault)
unopened look fault = Usual (usual.Unopened fault)

module _ {S : Type 0} (g : Ghosts S) {W : Type 0} where
  -- The folder was not opened, and nothing was printed; or its world was, and this was made of it.
  abbrev pub OpensFor : Look → W → W → Option (List ℕ) → Option (List ℕ) → Ending → Type 0
  OpensFor look writer writer' before after ending =
      ((fault : OpenFault) × (ending ≡ unopened look fault) × (writer' ≡ writer))
      ⊎ ((strays : ℕ) × (old : Seen S) × (stores : List (Held S)) × IsFolderBeside g strays old
      × Looked g strays old stores writer writer' before after look ending)

  -- The words could not be read, and nothing was printed; or the folder was opened for what they
  -- ask.
  abbrev pub Looks : Asked → W → W → Option (List ℕ) → Option (List ℕ) → Ending → Type 0
  Looks words writer writer' before after ending =
      ((what : What) × IsUnread words what × (ending ≡ Usual (usual.Usual (Refused what)))
      × (writer' ≡ writer))
      ⊎ ((look : Look) × Asks words look × OpensFor look writer writer' before after ending)
