-- What is done over a folder, what is made of its world, and how the program ends. Profile.
use Rattle.std.specs.Prelude.{◌≡◌, ◌⊎◌, ℕ, List, Option}
use Rattle.sqlite.specs.Held.{Held}
use Rattle.sqlite.specs.Store.{Ghosts}
use Rattle.world.specs.Worlds.{Seen, held}
use Rattle.command_words.specs.Arguments.{AsksDesk}
use Rattle.command_words.specs.declared.statuses.Outcome.TheVariants.{Refused}
use Rattle.command_words.specs.declared.statuses.What.TheVariants.{BadNumber}
use Rattle.command_folder.specs.Folders.{OpensThen}
use Rattle.command_folder.specs.declared.endings.Ending.{Ending}
use Rattle.command_folder.specs.declared.endings.Ending.TheVariants.{Unopened, Usual}
use Rattle.commands.specs.Streams.{AppliesEach}
use Rattle.commands.specs.Subcommands.{ImportsFile, ServesOn}
use Rattle.commands.specs.declared.working.Asked.{Asked}
use Rattle.commands.specs.declared.working.Asked.TheVariants as asked
use Rattle.commands.specs.declared.working.Work.{Work}
use Rattle.commands.specs.declared.working.Work.TheVariants.{Apply, Import, Serve}

-- what the words ask for
abbrev pub Asks : Asked → Work → Type 0
Asks asked.Apply Apply = Unit {0}
Asks (asked.Import word) (Import file) = file.now ≡ word.now
Asks (asked.Serve words) (Serve desk) = AsksDesk words.port.now words.count.now desk.port desk.count
Asks words work = ⊥

-- A number that the words name is none, or out of its range.
abbrev pub IsUnread : Asked → Type 0
IsUnread (asked.Serve words) =
    (port count : ℕ) → ¬ AsksDesk words.port.now words.count.now port count
IsUnread words = ⊥

module _ {S : Type 0} (g : Ghosts S) (text : Option (List ℕ)) where
  module _ {W : Type 0} (old new : Seen S) (writer writer' : W)
      (before after : Option (List ℕ)) where
    -- what is made of a world, and how the program ends then
    abbrev pub Worked : Work → Ending → Type 0
    Worked Apply ending = AppliesEach g text old new writer writer' before after ending
    Worked (Import file) ending = ImportsFile g old new writer writer' before after ending
    Worked (Serve desk) ending = ServesOn g desk.count old new ending × (writer' ≡ writer)

  -- The same of a world that ended with it, and of which these stores are left.
  abbrev pub EndsWork : {W : Type 0} → Seen S → List (Held S) → W → W
      → Option (List ℕ) → Option (List ℕ) → Work → Ending → Type 0
  EndsWork old stores writer writer' before after work ending =
      (new : Seen S) × (stores ≡ held g new)
      × Worked old new writer writer' before after work ending

  module _ {W : Type 0} where
    -- The folder was not opened, and nothing was written; or its world was, and this was made of it.
    abbrev pub OpensFor : Work → W → W → Option (List ℕ) → Option (List ℕ) → Ending → Type 0
    OpensFor work writer writer' before after ending =
        OpensThen g Unopened (λ old new. Worked old new writer writer' before after work ending)
        writer writer' ending

    -- The words could not be read, and nothing was written; or the folder was opened for what they
    -- ask.
    abbrev pub Works : Asked → W → W → Option (List ℕ) → Option (List ℕ) → Ending → Type 0
    Works words writer writer' before after ending =
        (IsUnread words × (ending ≡ Usual (Refused BadNumber)) × (writer' ≡ writer))
        ⊎ ((work : Work) × Asks words work × OpensFor work writer writer' before after ending)
