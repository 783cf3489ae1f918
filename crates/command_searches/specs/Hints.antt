-- What is told of a word that names no package or no item in a world. Profile.
use Rattle.std.specs.Prelude.{◌≡◌, ℕ, Bool, true, false, List, Option, Some, None}
use Rattle.std.specs.Borrow.{Bor}
use Rattle.sheet_types.specs.World.{World}
use Rattle.command_verbs.specs.declared.verbs.Verb.{Verb}
use Rattle.command_verbs.specs.declared.verbs.Verb.TheVariants.{Lend, Return, PutTile, PutMedium, PutMark, Join, Part}
use Rattle.command_names.specs.declared.hints.Hint.{Hint}
use Rattle.command_names.specs.declared.hints.Whose.{Whose}
use Rattle.command_names.specs.declared.hints.Whose.TheVariants.{Package, Item}
use Rattle.command_names.specs.declared.searching.Found.{Found}
use Rattle.command_names.specs.declared.searching.Found.TheVariants.{One, Two, Nearest}
use Rattle.command_searches.specs.Searches.{IsItemFound, IsPackageFound}

-- what came nearest, where the word names none
abbrev pub hint_of : Whose → Bor (List ℕ) → Found → Option Hint
hint_of whose word (Nearest (Some nearest)) = Some (record { whose = whose; word = word; nearest = nearest })
hint_of whose word (Nearest None) = None
hint_of whose word (One id) = None
hint_of whose word (Two one other) = None

-- what the word names in a world
abbrev pub IsFoundOf : Whose → World → List ℕ → Found → Type 0
IsFoundOf Package w word found = IsPackageFound w word found
IsFoundOf Item w word found = IsItemFound w word found

-- this is told of it
abbrev pub IsHintOf : Whose → World → Bor (List ℕ) → Option Hint → Type 0
IsHintOf whose w word hint = (found : Found) × IsFoundOf whose w word.now found × (hint ≡ hint_of whose word found)

-- something comes nearest to a word that names none
abbrev pub has_hint : Found → Bool
has_hint (Nearest (Some nearest)) = true
has_hint (Nearest None) = false
has_hint (One id) = false
has_hint (Two one other) = false

-- what is told of the first of two words for items where something comes nearest to it, or else of the second
abbrev pub IsHintOfTwo : Bool → World → Bor (List ℕ) → Found → Bor (List ℕ) → Option Hint → Type 0
IsHintOfTwo true w first found second hint = hint ≡ hint_of Item first found
IsHintOfTwo false w first found second hint = IsHintOf Item w second hint

abbrev pub IsEitherHint : World → Bor (List ℕ) → Bor (List ℕ) → Option Hint → Type 0
IsEitherHint w first second hint =
    (found : Found) × IsItemFound w first.now found × IsHintOfTwo (has_hint found) w first found second hint

-- of the words of a verb
abbrev pub IsVerbHint : World → Verb → Option Hint → Type 0
IsVerbHint w (Lend (Some word) area mode loan) hint = IsHintOf Package w word hint
IsVerbHint w (Lend None area mode loan) hint = hint ≡ None
IsVerbHint w (Return loan) hint = IsHintOf Package w loan hint
IsVerbHint w (PutTile holder place identity) hint = IsHintOf Package w holder hint
IsVerbHint w (PutMedium holder word identity) hint = IsHintOf Package w holder hint
IsVerbHint w (PutMark holder mark identity) hint = IsHintOf Package w holder hint
IsVerbHint w (Join first second) hint = IsEitherHint w first second hint
IsVerbHint w (Part first second) hint = IsEitherHint w first second hint
