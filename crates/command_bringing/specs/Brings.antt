-- What is made of a world by bringing an edited file home, what is printed, and how the program ends. Profile.
use Rattle.std.specs.Prelude.{◌≡◌, ◌⊎◌, ℕ, List, Option, Result, Ok, Err}
use Rattle.sqlite.specs.Store.{Ghosts}
use Rattle.sheet_types.specs.World.{World}
use Rattle.sheet_types.specs.declared.command.Request.{Request}
use Rattle.package_tables.specs.declared.fault.Fault.{Fault}
use Rattle.world_members.specs.Members.{AllClean}
use Rattle.world.specs.Worlds.{Seen, StandsFor}
use Rattle.manifest_csv.specs.Imports.{Imports, IsCarried, IsListOf}
use Rattle.manifest_csv.specs.declared.importing.ImportFault.{ImportFault}
use Rattle.request_writing.specs.RequestTexts.{list_text}
use Rattle.command_requests.specs.Listing.{IsUntouched}
use Rattle.command_words.specs.Endings.{import_outcome}
use Rattle.command_words.specs.Failures.{of_fault}
use Rattle.command_words.specs.declared.statuses.Outcome.TheVariants.{Stopped}
use Rattle.command_folder.specs.Endings.{done, no_memory}
use Rattle.command_folder.specs.Printing.{Prints}
use Rattle.command_folder.specs.declared.endings.Ending.{Ending}
use Rattle.command_folder.specs.declared.endings.Ending.TheVariants.{NoRequest, Usual}
use Rattle.command_field.specs.Answers.{AnswersText}
use Rattle.command_field.specs.declared.asking.Answer.{Answer}
use Rattle.command_field.specs.declared.asking.Answer.TheVariants.{Asked}
use Rattle.command_field.specs.declared.asking.Ask.{Ask}
use Rattle.command_bringing.specs.Telling.{refusal_text, summary_text}
use Rattle.command_bringing.specs.declared.bringing.Purpose.{Purpose}
use Rattle.command_bringing.specs.declared.bringing.Purpose.TheVariants.{ShowList, ShowSummary, CarryOut}

-- how the program ends by an import
abbrev pub import_ending : Result (Unit {0}) ImportFault → Ending
import_ending (Ok x) = done
import_ending (Err fault) = Usual (import_outcome fault)

module _ {W : Type 0} (writer writer' : W) (before after : Option (List ℕ)) where
  -- a text is printed; or memory is wanting for it, and nothing is written
  abbrev pub PrintsText : List ℕ → Ending → Ending → Type 0
  PrintsText text due ending = Prints text due before after ending ⊎ ((ending ≡ no_memory) × (writer' ≡ writer))

module _ {S : Type 0} (g : Ghosts S) where
  module _ {W : Type 0} (writer writer' : W) (before after : Option (List ℕ)) where
    -- Requests are carried out, as an import does it; so it is one of each text whose list they are.
    abbrev pub IsBroughtHome : List Request → Seen S → Seen S → ℕ → ℕ → Ending → Type 0
    IsBroughtHome requests old new failed fails ending =
        (r : Result (Unit {0}) ImportFault) × (ending ≡ import_ending r)
        × IsCarried g requests old new failed fails before after r
        × IsListOf requests (λ text. Imports g text old new failed fails writer writer' before after r)

    -- They are shown as a list or in short, and the world stays; or they are carried out.
    abbrev pub Serves : Purpose → List Request → Seen S → Seen S → ℕ → ℕ → Ending → Type 0
    Serves ShowList requests old new failed fails ending = (new ≡ old)
        × PrintsText writer writer' before after (list_text requests) done ending
    Serves ShowSummary requests old new failed fails ending = (new ≡ old)
        × PrintsText writer writer' before after (summary_text requests) done ending
    Serves CarryOut requests old new failed fails ending = IsBroughtHome requests old new failed fails ending

    -- the requests are served; or there are none, that is printed, and the world stays
    abbrev pub EndsAnswer : Purpose → Answer → Seen S → Seen S → ℕ → ℕ → Ending → Type 0
    EndsAnswer purpose (Asked requests) old new failed fails ending =
        Serves purpose requests.items old new failed fails ending
    EndsAnswer purpose answer old new failed fails ending = (new ≡ old)
        × PrintsText writer writer' before after (refusal_text answer) NoRequest ending

    -- The text of a list was answered, of each world that the value stands for, and what came of that; or memory or a
    -- store gave out.
    abbrev pub Brings : Ask → Option (List ℕ) → Purpose → Seen S → Seen S → ℕ → ℕ → Ending
        → Type 0
    Brings a text purpose old new failed fails ending =
        ((fault : Fault) × IsUntouched g old new × (ending ≡ Usual (Stopped (of_fault fault)))
        × (writer' ≡ writer))
        ⊎ ((answer : Answer) × (read : Seen S) × IsUntouched g old read
        × (AllClean g read.members → (w : World) → StandsFor g old w → AnswersText w a text answer)
        × EndsAnswer purpose answer read new failed fails ending)
