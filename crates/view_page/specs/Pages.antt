-- The page that is written of a world, and how the program ends. Profile.
use Rattle.std.specs.Prelude.{◌≡◌, ◌⊎◌, ℕ, List, Option, Some, None, Result, Ok, Err, option_map}
use Rattle.sqlite.specs.Held.{Held}
use Rattle.sqlite.specs.Store.{Ghosts}
use Rattle.sheet_types.specs.World.{World}
use Rattle.package_tables.specs.declared.fault.Fault.{Fault}
use Rattle.command_words.specs.Failures.{of_fault}
use Rattle.command_words.specs.declared.statuses.Outcome.TheVariants.{Stopped}
use Rattle.command_folder.specs.Endings.{done}
use Rattle.command_folder.specs.Folders.{IsFolderWorld}
use Rattle.command_folder.specs.Printing.{Prints}
use Rattle.command_folder.specs.declared.endings.Ending.{Ending}
use Rattle.command_folder.specs.declared.endings.Ending.TheVariants.{NoSuchPackage, Unopened, Usual}
use Rattle.command_folder.specs.declared.endings.OpenFault.{OpenFault}
use Rattle.command_folder.specs.declared.endings.OpenFault.TheVariants.{Folder, Fault as Fault-of-stores, Numbered}
use Rattle.command_words.specs.declared.statuses.Failure.TheVariants.{OutOfMemory}
use Rattle.view_drawing.specs.Drawings.{drawing_text}
use Rattle.view_fault.specs.Pages.{fault_page}
use Rattle.view_loan.specs.Pages.{TellsLoan}
use Rattle.view_page.specs.declared.pages.Paper.{Paper}
use Rattle.view_page.specs.declared.pages.Paper.TheVariants.{Whole, Loan, Map}
use Rattle.view_report.specs.Pages.{page_text}
use Rattle.view_report.specs.declared.registers.Name.{Name}
use Rattle.view_report.specs.declared.registers.Register.{Register}
use Rattle.view_page.specs.Registers.{IsRegisterOf, LooksThrough}
use Rattle.view_world.specs.Looks.{IsLookedAt}
use Rattle.world.specs.Worlds.{Seen, TellsOf}

-- what was asked of a register, and a text of it: its page or its map always, and the page of a loan where there is
-- such a loan
abbrev pub IsPaper : Register → Paper → Option (List ℕ) → Type 0
IsPaper r Whole (Some text) = text ≡ page_text r
IsPaper r Whole None = ⊥
IsPaper r (Loan id) found = TellsLoan r id found
IsPaper r Map (Some text) = text ≡ drawing_text r
IsPaper r Map None = ⊥

-- the same of a world
abbrev pub IsPaperOf : World → List Name → Paper → Option (List ℕ) → Type 0
IsPaperOf w names paper found = (r : Register) × IsRegisterOf w names r × IsPaper r paper found

abbrev pub as_bytes : {T : Type 0} → (T → List ℕ) → Result (Option T) Fault → Result (Option (List ℕ)) Fault
as_bytes bytes (Ok found) = Ok (option_map bytes found)
as_bytes bytes (Err fault) = Err fault

-- It is printed; or there is no such loan, or memory or a store gave out before, and nothing is.
abbrev pub ShowsText : {W : Type 0} → Result (Option (List ℕ)) Fault → W → W → Option (List ℕ)
    → Option (List ℕ)
    → Ending → Type 0
ShowsText (Ok (Some text)) writer writer' before after ending = Prints text done before after ending
ShowsText (Ok None) writer writer' before after ending = (ending ≡ NoSuchPackage) × (writer' ≡ writer)
ShowsText (Err fault) writer writer' before after ending = (ending ≡ Usual (Stopped (of_fault fault)))
    × (writer' ≡ writer)

-- the page of a folder that is not opened, where its stores stand for no world
abbrev pub text_of_fault : OpenFault → Option (List ℕ)
text_of_fault (Folder met) = None
text_of_fault (Fault-of-stores met) = fault_page met
text_of_fault (Numbered met number) = fault_page met

-- where a page was asked for; there is no map of such a folder
abbrev pub page_of_fault : Paper → OpenFault → Option (List ℕ)
page_of_fault Whole fault = text_of_fault fault
page_of_fault (Loan id) fault = text_of_fault fault
page_of_fault Map fault = None

-- It is printed, and the program ends as such a folder ends it; or memory gave out before.
abbrev pub PrintsFault : {W : Type 0} → OpenFault → Option (List ℕ) → W → W → Option (List ℕ)
    → Option (List ℕ)
    → Ending → Type 0
PrintsFault fault (Some text) writer writer' before after ending = Prints text (Unopened fault) before after ending
PrintsFault fault None writer writer' before after ending = (ending ≡ Unopened fault) × (writer' ≡ writer)

abbrev pub ShowsFault : {W : Type 0} → Paper → OpenFault → W → W → Option (List ℕ) → Option (List ℕ)
    → Ending → Type 0
ShowsFault paper fault writer writer' before after ending =
    PrintsFault fault (page_of_fault paper fault) writer writer' before after ending
    ⊎ ((ending ≡ Usual (Stopped OutOfMemory)) × (writer' ≡ writer))

module _ {S : Type 0} (g : Ghosts S) {W : Type 0} where
  -- What was asked of the world was printed, and the world was only read, if at all. It stays.
  pub record ShowsOver (names : List Name) (paper : Paper) (old new : Seen S) (writer writer' : W)
      (before after : Option (List ℕ)) (ending : Ending) : Type 0 where
    pub found : Result (Option (List ℕ)) Fault
    pub told : TellsOf g (λ w text. IsPaperOf w names paper text) old new found
    pub read : IsLookedAt g old new
    pub shown : ShowsText found writer writer' before after ending

  -- What was asked of the world was printed, and the world and its stores were only read.
  pub record ShowsPage (names : List Name) (paper : Paper) (seen : Seen S) (stores : List (Held S)) (writer writer' : W)
      (before after : Option (List ℕ)) (ending : Ending) : Type 0 where
    pub found : Result (Option (List ℕ)) Fault
    pub looked : LooksThrough g (λ w text. IsPaperOf w names paper text) seen stores found
    pub shown : ShowsText found writer writer' before after ending

  -- The folder was not opened, and the page of the fault was printed; or what was asked of its world.
  abbrev pub OpensPage : List Name → Paper → W → W → Option (List ℕ) → Option (List ℕ) → Ending
      → Type 0
  OpensPage names paper writer writer' before after ending =
      ((fault : OpenFault) × ShowsFault paper fault writer writer' before after ending)
      ⊎ ((old : Seen S) × (stores : List (Held S)) × IsFolderWorld g old
      × ShowsPage names paper old stores writer writer' before after ending)
