-- What a package holds once an edited file was brought home. Profile.
use Rattle.std.specs.Prelude.{◌≡◌, ℕ, true, List, Option, Some}
use Rattle.sqlite.specs.Store.{Ghosts}
use Rattle.sheet_types.specs.Custody.{ticket}
use Rattle.sheet_types.specs.Texts.{is_moment}
use Rattle.sheet_types.specs.World.{World}
use Rattle.sheet_types.specs.declared.command.Request.{Request}
use Rattle.field_changes.specs.declared.held.Held.{Held}
use Rattle.field_home_laws.specs.Laws.{ChangesOf, HoldsFile}
use Rattle.world_members.specs.Members.{AllClean}
use Rattle.world.specs.Worlds.{Seen, StandsFor}
use Rattle.command_folder.specs.Endings.{done}
use Rattle.command_folder.specs.declared.endings.Ending.{Ending}
use Rattle.command_field.specs.Answers.{AreHeldIn}
use Rattle.command_field.specs.declared.asking.Ask.{Ask}
use Rattle.command_bringing.specs.declared.bringing.Purpose.{Purpose}
use Rattle.command_bringing.specs.declared.bringing.Purpose.TheVariants.{CarryOut}

-- From one world to the next: the text lists what a file holds, and these are the requests for it. The package holds
-- what the file has, and nothing else changed.
pub record IsHome (a : Ask) (text : Option (List ℕ)) (w next : World) : Type 0 where
  pub file : Held
  pub listed : AreHeldIn text (Some file)
  pub requests : List Request
  pub changes : ChangesOf w a.«package» (ticket w a.«package») a.at.now a.more file requests
  pub holds : HoldsFile w next a.«package» (ticket w a.«package») a.at.now a.more file requests changes

-- Where a file was to be carried out, and the program ends as if all was done: so it is of each world that the
-- value stood for, and of one that it stands for then.
abbrev pub ComesHome : {S : Type 0} → Ghosts S → Ask → Option (List ℕ) → Purpose → Seen S → Seen S
    → Ending → Type 0
ComesHome {S} g a text purpose old new ending = purpose ≡ CarryOut → ending ≡ done
    → is_moment a.at.now ≡ true →
    AllClean g new.members → (w : World) → StandsFor g old w
    → (next : World) × StandsFor g new next × IsHome a text w next
