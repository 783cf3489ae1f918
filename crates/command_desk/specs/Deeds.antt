-- What is made of a world that stays by a command, what is printed, and how it ends. Profile.
use Rattle.std.specs.Prelude.{◌≡◌, ◌⊎◌, ◌-◌, ℕ, List, length, Option, Some, None, Result, Ok, Err}
use Rattle.sqlite.specs.Store.{Ghosts}
use Rattle.package_tables.specs.declared.fault.Fault.{Fault}
use Rattle.sheet_types.specs.Reading.{frame_text}
use Rattle.sheet_types.specs.World.{World}
use Rattle.world.specs.Worlds.{Seen, StandsFor}
use Rattle.command_folder.specs.Endings.{done}
use Rattle.command_folder.specs.declared.endings.Ending.{Ending as CommandEnding}
use Rattle.command_folder.specs.declared.endings.Ending.TheVariants as usual
use Rattle.command_names.specs.declared.hints.Hint.{Hint}
use Rattle.command_named.specs.Items.{TellsItem}
use Rattle.command_named.specs.Packages.{look_of}
use Rattle.command_named.specs.Ways.{TellsNamed}
use Rattle.command_named.specs.declared.looking.NamedLook.{NamedLook}
use Rattle.command_named.specs.declared.looking.NamedLook.TheVariants.{Get, Explain, Manifest, Export}
use Rattle.command_named.specs.declared.packages.PackageLook.{PackageLook}
use Rattle.command_named.specs.declared.packages.PackageLook.TheVariants as kind
use Rattle.command_ordering.specs.Boxes.{LendsBox}
use Rattle.command_ordering.specs.Naming.{NamesPackage}
use Rattle.command_ordering.specs.Ordering.{HintsOrder}
use Rattle.command_words.specs.declared.statuses.Outcome.TheVariants.{Refused}
use Rattle.command_words.specs.declared.statuses.What.{What}
use Rattle.command_ordering.specs.Orders.{PrintsLine}
use Rattle.commands.specs.Subcommands.{Applies}
use Rattle.std.specs.Borrow.{Bor}
use Rattle.views.specs.Looks.{Asks, IsUnread, LooksOver}
use Rattle.views.specs.Showing.{stopped}
use Rattle.views.specs.declared.endings.Ending.{Ending}
use Rattle.views.specs.declared.endings.Ending.TheVariants.{Usual}
use Rattle.views.specs.declared.looking.Asked.{Asked}
use Rattle.views.specs.declared.looking.Look.{Look}
use Rattle.command_desk.specs.Carrying.{Carries}
use Rattle.command_desk.specs.declared.deeds.Deed.{Deed}
use Rattle.command_desk.specs.declared.deeds.Deed.TheVariants as deed

-- How many stores of a folder are of no live package: `files` is the number of its stores, `strays` of those beside.
abbrev pub AreStrays : {S : Type 0} → Ghosts S → Seen S → ℕ → ℕ → Type 0
AreStrays g seen files strays = (w : World) → StandsFor g seen w → strays ≡ files - length w.packages

module _ {S : Type 0} (g : Ghosts S) {W : Type 0} (old new : Seen S) (writer writer' : W)
    (before after : Option (List ℕ)) where
  -- It was looked at, and the look tells the strays among `files` stores; or memory was wanting to count them.
  abbrev pub ShowsLook : ℕ → Look → Ending → Type 0
  ShowsLook files it ending =
      ((strays : ℕ) × AreStrays g old files strays
      × LooksOver g strays old new writer writer' before after it ending)
      ⊎ ((fault : Fault) × (ending ≡ stopped fault) × (new ≡ old) × (writer' ≡ writer))

  -- The words could not be read, and nothing was done; or what they ask was looked at.
  abbrev pub IsLooked : ℕ → Asked → Ending → Type 0
  IsLooked files words ending =
      ((what : What) × IsUnread words what × (ending ≡ Usual (usual.Usual (Refused what))) × (new ≡ old)
      × (writer' ≡ writer))
      ⊎ ((look : Look) × Asks words look × ShowsLook files look ending)

  -- Who named a package had it looked at; of a word that names none, how it ends was answered before.
  abbrev pub LooksNamed : W → Option (List ℕ) → Option Hint → PackageLook → Result (List ℕ) CommandEnding
      → Ending
      → Option Hint → Type 0
  LooksNamed mid between told what (Ok id) ending hint =
      LooksOver g 0 old new mid writer' between after (look_of what id) ending × (hint ≡ None)
  LooksNamed mid between told what (Err why) ending hint =
      (ending ≡ Usual why) × (hint ≡ told) × (new ≡ old) × (writer' ≡ mid)

  -- The package that the word names was looked at, or what comes nearest was told. Behind the name a writer has what
  -- `contents` says.
  pub record IsPackageLooked (contents : W → Option (List ℕ)) (what : PackageLook) (word : Bor (List ℕ))
      (ending : Ending) (hint : Option Hint) : Type 0 where
    pub mid : W
    pub named : Result (List ℕ) CommandEnding
    pub told : Option Hint
    pub names : NamesPackage g word old writer mid before (contents mid) named told
    pub looks : LooksNamed mid (contents mid) told what named ending hint

  -- What a word names was looked at.
  abbrev pub IsNamedLooked : (W → Option (List ℕ)) → NamedLook → Ending → Option Hint → Type 0
  IsNamedLooked contents (Get word) ending hint = TellsItem g word old new writer writer' before after ending hint
  IsNamedLooked contents (Explain form word) ending hint =
      TellsNamed g form word old new writer writer' before after ending hint
  IsNamedLooked contents (Manifest word) ending hint =
      IsPackageLooked contents kind.Manifest word ending hint
  IsNamedLooked contents (Export word) ending hint =
      IsPackageLooked contents kind.Export word ending hint

  -- What was done over these bytes of standard input. The folder has `files` stores.
  abbrev pub IsDone : (W → Option (List ℕ)) → ℕ → List ℕ → Deed → Ending → Option Hint → Type 0
  IsDone contents files input deed.Apply ending hint =
      (told : CommandEnding) × (ending ≡ Usual told) × (hint ≡ None)
      × Applies g (Some input) old new writer writer' before after told
  IsDone contents files input (deed.Look asked) ending hint = IsLooked files asked ending × (hint ≡ None)
  IsDone contents files input (deed.Named asked) ending hint = IsNamedLooked contents asked ending hint
  IsDone contents files input (deed.Order order purpose) ending hint =
      (told : CommandEnding) × (ending ≡ Usual told)
      × HintsOrder g (Some input) order purpose old new writer writer' before after told hint
  IsDone contents files input (deed.LendBox boxed purpose) ending hint =
      (told : CommandEnding) × (ending ≡ Usual told)
      × LendsBox g boxed purpose old new writer writer' before after told hint
  IsDone contents files input (deed.Carry report) ending hint =
      (told : CommandEnding) × (ending ≡ Usual told) × (hint ≡ None)
      × Carries g report input old new writer writer' before after told
  IsDone contents files input deed.Frame ending hint =
      (told : CommandEnding) × (ending ≡ Usual told) × (hint ≡ None) × (new ≡ old)
      × PrintsLine writer writer' before after (frame_text old.frame) done told
