-- How the program ends: its exit status, and the line that it prints before (profile).
use Rattle.std.specs.Prelude.{ℕ, List, [], ◌∷◌, ◌++◌, codes}
use Rattle.manifest_csv.specs.declared.importing.ImportFault.{ImportFault}
use Rattle.manifest_csv.specs.declared.importing.ImportFault.TheVariants.{Unread, Stopped as Interrupted, Unwritten}
use Rattle.request_csv.specs.declared.lists.ReadFault.TheVariants.{Header, Record, Read, Memory}
use Rattle.command_words.specs.Failures.{of_fault}
use Rattle.command_words.specs.declared.statuses.What.{What}
use Rattle.command_words.specs.declared.statuses.What.TheVariants.{BadUuid, BadMoment, BadFrame, BadNumber, BadList}
use Rattle.command_words.specs.declared.statuses.Failure.{Failure}
use Rattle.command_words.specs.declared.statuses.Failure.TheVariants.{OutOfMemory, StoreFault}
use Rattle.command_words.specs.declared.statuses.Outcome.{Outcome}
use Rattle.command_words.specs.declared.statuses.Outcome.TheVariants.{Done, Refused, Stopped}

abbrev pub outcome_status : Outcome → ℕ
outcome_status Done = 0
outcome_status (Refused what) = 1
outcome_status (Stopped failure) = 3

abbrev pub what_word : What → List ℕ
what_word BadUuid = codes "uuid"
what_word BadMoment = codes "at"
what_word BadFrame = codes "frame"
what_word BadNumber = codes "number"
what_word BadList = codes "list"

abbrev pub failure_word : Failure → List ℕ
failure_word OutOfMemory = codes "OutOfMemory"
failure_word StoreFault = codes "StoreFault"

-- a word, a colon and a space, another word, and the end of the line, which is one LF
abbrev pub line_of : List ℕ → List ℕ → List ℕ
line_of about word = about ++ (58 ∷ 32 ∷ word ++ (10 ∷ []))

-- on standard output
abbrev pub output_text : Outcome → List ℕ
output_text Done = []
output_text (Refused what) = line_of (codes "refused") (what_word what)
output_text (Stopped failure) = []

-- on standard error
abbrev pub error_text : Outcome → List ℕ
error_text Done = []
error_text (Refused what) = []
error_text (Stopped failure) = line_of (codes "store") (failure_word failure)

-- how an import that did not go through ends the program
abbrev pub import_outcome : ImportFault → Outcome
import_outcome (Unread Memory) = Stopped OutOfMemory
import_outcome (Unread Header) = Refused BadList
import_outcome (Unread (Record n)) = Refused BadList
import_outcome (Unread Read) = Refused BadList
import_outcome (Interrupted n fault) = Stopped (of_fault fault)
import_outcome Unwritten = Stopped StoreFault
