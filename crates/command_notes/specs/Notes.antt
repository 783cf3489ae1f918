-- What standard error is told of a list beside how its command ended. Profile.
use Rattle.std.specs.Prelude.{◌≡◌, ◌⊎◌, ⊤, ℕ, List, Option, Some, None}
use Rattle.sheet_types.specs.declared.command.Request.{Request}
use Rattle.request_csv.specs.Causes.{IsCause, read_fault}
use Rattle.request_csv.specs.RequestLists.{IsList}
use Rattle.request_csv.specs.declared.causes.ListFault.{ListFault}
use Rattle.request_csv.specs.declared.lists.ReadFault.{ReadFault}
use Rattle.command_faults.specs.Texts.{cause_text}

-- this cause is that of the fault that was told, where one was
abbrev pub Agrees : ListFault → Option ReadFault → Type 0
Agrees cause None = ⊤
Agrees cause (Some fault) = read_fault cause ≡ fault

-- the line that says why a text is no list
abbrev pub IsListNote : List ℕ → Option ReadFault → List ℕ → Type 0
IsListNote text told note = (cause : ListFault) × IsCause text cause × Agrees cause told
    × (note ≡ cause_text cause)

-- there is none: the text is a list, or it has another fault than was told
abbrev pub HasNoNote : List ℕ → Option ReadFault → Type 0
HasNoNote text told = ((requests : List Request) × IsList text requests)
    ⊎ ((cause : ListFault) × IsCause text cause × ¬ Agrees cause told)
