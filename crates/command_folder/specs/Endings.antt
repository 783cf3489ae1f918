-- How a call of the program on a folder ends: its exit status, and the lines that it prints before (profile).
use Rattle.std.specs.Prelude.{ℕ, List, [], ◌∷◌, ◌++◌, codes, Result, Ok, Err}
use Rattle.command_words.specs.Endings.{outcome_status, line_of, output_text as outcome_output}
use Rattle.command_words.specs.Endings.{error_text as outcome_error}
use Rattle.command_words.specs.Failures.{of_fault}
use Rattle.command_words.specs.declared.statuses.Failure.TheVariants as failure
use Rattle.command_words.specs.declared.statuses.Outcome.TheVariants.{Done, Stopped}
use Rattle.manifest_csv.specs.declared.package_manifests.ManifestFault.{ManifestFault}
use Rattle.manifest_csv.specs.declared.package_manifests.ManifestFault.TheVariants as manifest
use Rattle.command_faults.specs.Texts.{fault_text, fault_text_at, list_text, record_text, refusal_text}
use Rattle.store_folder.specs.Faults.{cause_text}
use Rattle.store_folder.specs.declared.fault.FolderFault.{FolderFault}
use Rattle.store_folder.specs.declared.fault.FolderFault.TheVariants as folder
use Rattle.opening_faults.specs.declared.faults.RecoverFault.{RecoverFault}
use Rattle.opening_faults.specs.declared.faults.RecoverFault.TheVariants.{NoArchive, TwoArchives, NotAPackage}
use Rattle.opening_faults.specs.declared.faults.RecoverFault.TheVariants.{TwoCopies, MissingPackage, ForeignFrame}
use Rattle.opening_faults.specs.declared.faults.RecoverFault.TheVariants.{Dangling, OutOfAccount, Altered}
use Rattle.opening_faults.specs.declared.faults.RecoverFault.TheVariants.{OutOfMemory, StoreFault}
use Rattle.command_folder.specs.declared.endings.OpenFault.{OpenFault}
use Rattle.command_folder.specs.declared.endings.OpenFault.TheVariants.{Folder, Fault, Numbered}
use Rattle.command_folder.specs.declared.endings.Ending.{Ending}
use Rattle.command_folder.specs.declared.endings.Ending.TheVariants.{Usual, BadBody, HoldsPackages, NoSuchPackage}
use Rattle.command_folder.specs.declared.endings.Ending.TheVariants.{Declined, RecordDeclined, NoRequest, Unlisted}
use Rattle.command_folder.specs.declared.endings.Ending.TheVariants.{Unopened, Faulted}

-- all was done; a file or a stream gave out; a growth was refused
abbrev pub done : Ending
done = Usual Done

abbrev pub failed : Ending
failed = Usual (Stopped failure.StoreFault)

abbrev pub no_memory : Ending
no_memory = Usual (Stopped failure.OutOfMemory)

-- what was written of a package, or why it was not
abbrev pub manifest_ending : Result (Unit {0}) ManifestFault → Ending
manifest_ending (Ok x) = done
manifest_ending (Err manifest.Unknown) = NoSuchPackage
manifest_ending (Err (manifest.Failed fault)) = Usual (Stopped (of_fault fault))
manifest_ending (Err manifest.Unwritten) = failed

abbrev pub ending_status : Ending → ℕ
ending_status (Usual outcome) = outcome_status outcome
ending_status BadBody = 1
ending_status HoldsPackages = 1
ending_status NoSuchPackage = 1
ending_status (Declined why) = 1
ending_status (RecordDeclined number why) = 0
ending_status NoRequest = 1
ending_status (Unlisted fault) = 1
ending_status (Unopened fault) = 3
ending_status (Faulted fault) = 3

abbrev pub fault_word : RecoverFault → List ℕ
fault_word NoArchive = codes "NoArchive"
fault_word TwoArchives = codes "TwoArchives"
fault_word (NotAPackage uuid) = codes "NotAPackage"
fault_word (TwoCopies uuid) = codes "TwoCopies"
fault_word (MissingPackage uuid) = codes "MissingPackage"
fault_word (ForeignFrame uuid) = codes "ForeignFrame"
fault_word (Dangling uuid) = codes "Dangling"
fault_word OutOfAccount = codes "OutOfAccount"
fault_word (Altered uuid) = codes "Altered"
fault_word OutOfMemory = codes "OutOfMemory"
fault_word StoreFault = codes "StoreFault"

-- the fault by which a folder that is not opened is told: a cause that is known is told beside it
abbrev pub told_folder : FolderFault → RecoverFault
told_folder folder.OutOfMemory = OutOfMemory
told_folder fault = StoreFault

abbrev pub told_as : OpenFault → RecoverFault
told_as (Folder fault) = told_folder fault
told_as (Fault fault) = fault
told_as (Numbered fault number) = fault

-- the name of a fault alone, and behind a word
abbrev pub fault_line : RecoverFault → List ℕ
fault_line fault = fault_word fault ++ (10 ∷ [])

abbrev pub store_line : RecoverFault → List ℕ
store_line fault = line_of (codes "store") (fault_word fault)

-- on standard output, behind what was printed before
abbrev pub output_text : Ending → List ℕ
output_text (Usual outcome) = outcome_output outcome
output_text BadBody = line_of (codes "refused") (codes "body")
output_text HoldsPackages = line_of (codes "refused") (codes "folder holds packages")
output_text NoSuchPackage = line_of (codes "refused") (codes "no such package")
output_text (Declined why) = []
output_text (RecordDeclined number why) = []
output_text NoRequest = []
output_text (Unlisted fault) = line_of (codes "refused") (codes "list")
output_text (Unopened fault) = []
output_text (Faulted fault) = fault_line (told_as fault)

-- on standard error
abbrev pub error_text : Ending → List ℕ
error_text (Usual outcome) = outcome_error outcome
error_text BadBody = []
error_text HoldsPackages = []
error_text NoSuchPackage = []
error_text (Declined why) = []
error_text (RecordDeclined number why) = []
error_text NoRequest = []
error_text (Unlisted fault) = []
error_text (Unopened fault) = store_line (told_as fault)
error_text (Faulted fault) = []

-- what is known of why a folder is not opened
abbrev pub open_note : OpenFault → List ℕ
open_note (Folder fault) = cause_text fault
open_note (Fault fault) = fault_text fault
open_note (Numbered fault number) = fault_text_at fault number

-- and of an ending, on standard error, behind the line there
abbrev pub note_text : Ending → List ℕ
note_text (Usual outcome) = []
note_text BadBody = []
note_text HoldsPackages = []
note_text NoSuchPackage = []
note_text (Declined why) = refusal_text why
note_text (RecordDeclined number why) = record_text number why
note_text NoRequest = []
note_text (Unlisted fault) = list_text fault
note_text (Unopened fault) = open_note fault
note_text (Faulted fault) = open_note fault
