-- Why a verb says no command, as a line for people. Profile.
use Rattle.std.specs.Prelude.{ℕ, List, [], ◌∷◌, ◌++◌, Option, Some, None, codes}
use Rattle.sheet_types.specs.Texts.{uuid_text}
use Rattle.command_verbs.specs.declared.names.NameFault.{NameFault}
use Rattle.command_verbs.specs.declared.names.NameFault.TheVariants.{Short, Unknown, Two}
use Rattle.command_verbs.specs.declared.verbs.VerbFault.{VerbFault}
use Rattle.command_verbs.specs.declared.verbs.VerbFault.TheVariants.{OutOfMemory, Unnamed, Unfound, BadArea, BadPlace}
use Rattle.command_verbs.specs.declared.verbs.VerbFault.TheVariants.{BadPoint, BadCode, BadType, NotLent, BadTicket}
use Rattle.command_verbs.specs.declared.verbs.VerbFault.TheVariants.{Apart, Unrelated}

abbrev pub name_word : NameFault → List ℕ → List ℕ → List ℕ
name_word Short none two = codes "refused: a name of fewer than four digits"
name_word Unknown none two = none
name_word (Two one other) none two = two

abbrev pub verb_word : VerbFault → List ℕ
verb_word OutOfMemory = codes "refused: memory"
verb_word (Unnamed fault) = name_word fault (codes "refused: no such package") (codes "refused: two packages")
verb_word (Unfound fault) = name_word fault (codes "refused: no such item") (codes "refused: two items")
verb_word BadArea = codes "refused: area"
verb_word BadPlace = codes "refused: place"
verb_word BadPoint = codes "refused: point"
verb_word BadCode = codes "refused: code"
verb_word BadType = codes "refused: type"
verb_word NotLent = codes "refused: not lent"
verb_word BadTicket = codes "refused: ticket"
verb_word Apart = codes "refused: two packages hold them"
verb_word Unrelated = codes "refused: no mapping"

-- the two that a word may name, if that is why
abbrev pub two_of : NameFault → Option (List ℕ × List ℕ)
two_of Short = None
two_of Unknown = None
two_of (Two one other) = Some (one, other)

abbrev pub both_of : VerbFault → Option (List ℕ × List ℕ)
both_of (Unnamed fault) = two_of fault
both_of (Unfound fault) = two_of fault
both_of other = None

-- a word, and both behind a space each
abbrev pub line_with : List ℕ → Option (List ℕ × List ℕ) → List ℕ
line_with word None = word ++ (10 ∷ [])
line_with word (Some both) = word ++ (32 ∷ (uuid_text both.0 ++ (32 ∷ (uuid_text both.1 ++ (10 ∷ [])))))

-- the whole line
abbrev pub verb_line : VerbFault → List ℕ
verb_line fault = line_with (verb_word fault) (both_of fault)
