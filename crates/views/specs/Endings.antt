-- How a call that looks at a folder ends: its exit status, and the lines that it prints before (profile).
use Rattle.std.specs.Prelude.{ℕ, List, [], codes}
use Rattle.command_words.specs.Endings.{line_of}
use Rattle.command_folder.specs.Endings.{ending_status as usual_status, output_text as usual_output}
use Rattle.command_folder.specs.Endings.{error_text as usual_error, note_text as usual_note}
use Rattle.views.specs.declared.endings.Ending.{Ending}
use Rattle.views.specs.declared.endings.Ending.TheVariants.{Usual, NoSuchRequest, NoSuchIdentity, NoSuchZoom}

abbrev pub ending_status : Ending → ℕ
ending_status (Usual ending) = usual_status ending
ending_status NoSuchRequest = 1
ending_status NoSuchIdentity = 1
ending_status NoSuchZoom = 1

-- on standard output, behind what was printed before
abbrev pub output_text : Ending → List ℕ
output_text (Usual ending) = usual_output ending
output_text NoSuchRequest = line_of (codes "refused") (codes "no such request")
output_text NoSuchIdentity = line_of (codes "refused") (codes "no such identity")
output_text NoSuchZoom = line_of (codes "refused") (codes "zoom")

-- on standard error
abbrev pub error_text : Ending → List ℕ
error_text (Usual ending) = usual_error ending
error_text NoSuchRequest = []
error_text NoSuchIdentity = []
error_text NoSuchZoom = []

-- what is known of it, on standard error, behind the line there
abbrev pub note_text : Ending → List ℕ
note_text (Usual ending) = usual_note ending
note_text NoSuchRequest = []
note_text NoSuchIdentity = []
note_text NoSuchZoom = []
