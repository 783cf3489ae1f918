-- The same of the words, and over a folder. Profile.
use Rattle.std.specs.Prelude.{◌≡◌, ◌⊎◌, ℕ, true, false, List, Option, Some, None, is_some}
use Rattle.sqlite.specs.Held.{Held}
use Rattle.sqlite.specs.Store.{Ghosts}
use Rattle.uuid.specs.Text.{parsed_hyphenated}
use Rattle.sheet_types.specs.Texts.{is_moment}
use Rattle.world.specs.Worlds.{Seen, held}
use Rattle.command_words.specs.declared.statuses.Outcome.TheVariants.{Refused}
use Rattle.command_words.specs.declared.statuses.What.{What}
use Rattle.command_words.specs.declared.statuses.What.TheVariants.{BadUuid, BadMoment}
use Rattle.command_folder.specs.Folders.{IsFolderWorld}
use Rattle.command_folder.specs.declared.endings.Ending.{Ending}
use Rattle.command_folder.specs.declared.endings.Ending.TheVariants.{Unopened, Usual}
use Rattle.command_folder.specs.declared.endings.OpenFault.{OpenFault}
use Rattle.command_field.specs.declared.asking.Ask.{Ask}
use Rattle.command_bringing.specs.Brings.{Brings}
use Rattle.command_bringing.specs.Homecoming.{ComesHome}
use Rattle.command_bringing.specs.declared.bringing.Purpose.{Purpose}
use Rattle.command_bringing.specs.declared.folders.BringWords.{BringWords}

-- what words ask for
pub record Asks (words : BringWords) (a : Ask) : Type 0 where
  pub package_read : parsed_hyphenated words.«package».now ≡ Some a.«package»
  pub moment : is_moment words.at.now ≡ true
  pub at_read : a.at.now ≡ words.at.now
  pub more_read : a.more ≡ words.more

-- the first of them that is none
abbrev pub IsUnread : BringWords → What → Type 0
IsUnread words what =
    ((what ≡ BadUuid) × (parsed_hyphenated words.«package».now ≡ None))
    ⊎ ((what ≡ BadMoment) × (is_some (parsed_hyphenated words.«package».now) ≡ true)
    × (is_moment words.at.now ≡ false))

module _ {S : Type 0} (g : Ghosts S) {W : Type 0} (writer writer' : W) (before after : Option (List ℕ)) where
  -- of a world that ended with it, and of which these stores are left; what was carried out is held
  abbrev pub EndsBring : Ask → Option (List ℕ) → Purpose → Seen S → List (Held S) → Ending → Type 0
  EndsBring a text purpose old stores ending =
      (new : Seen S) × (failed fails : ℕ) × (stores ≡ held g new)
      × Brings g writer writer' before after a text purpose old new failed fails ending
      × ComesHome g a text purpose old new ending

  -- The folder was not opened, and nothing was written; or its world was, and this was made of it.
  abbrev pub OpensBring : Ask → Option (List ℕ) → Purpose → Ending → Type 0
  OpensBring a text purpose ending =
      ((fault : OpenFault) × (ending ≡ Unopened fault) × (writer' ≡ writer))
      ⊎ ((old : Seen S) × (stores : List (Held S)) × IsFolderWorld g old
      × EndsBring a text purpose old stores ending)

  -- Words that cannot be read open nothing.
  abbrev pub BringsFor : BringWords → Option (List ℕ) → Purpose → Ending → Type 0
  BringsFor words text purpose ending =
      ((what : What) × IsUnread words what × (ending ≡ Usual (Refused what)) × (writer' ≡ writer))
      ⊎ ((a : Ask) × Asks words a × OpensBring a text purpose ending)
