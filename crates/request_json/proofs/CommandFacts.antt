-- An object asks for nothing where it asks for nothing with the word that it has.
use Rattle.std.specs.Prelude.{◌≡◌, ℕ, ℤ, List, codes}
use Rattle.sheet_types.proofs.Basics.{some_once}
use Rattle.serde_json.specs.Data.{Data}
use Rattle.sheet_types.specs.declared.command.Content.{Content}
use Rattle.sheet_types.specs.declared.command.Mapping.{Mapping}
use Rattle.sheet_types.specs.declared.command.Mode.{Mode}
use Rattle.sheet_types.specs.declared.command.Command.{Command}
use Rattle.sheet_types.specs.declared.command.Command.TheVariants.{Add, Delete, Link, Unlink, Split, Merge}
use Rattle.sheet_types.specs.declared.frame.Rect.{Rect}
use Rattle.request_json.specs.Members.{IsTextAt}
use Rattle.request_json.specs.Requests.{IsCommand, command_word}

abbrev pub NoAddition : Data → Type 0
NoAddition d = (target identity : List ℕ) (content : Content) → ¬ IsCommand d (Add target identity content)

abbrev pub NoDeletion : Data → Type 0
NoDeletion d = (source identity : List ℕ) → ¬ IsCommand d (Delete source identity)

abbrev pub NoLink : Data → Type 0
NoLink d = (target base other : List ℕ) (mapping : Mapping) → ¬ IsCommand d (Link target mapping base other)

abbrev pub NoUnlink : Data → Type 0
NoUnlink d = (source base other : List ℕ) (mapping : Mapping) → ¬ IsCommand d (Unlink source mapping base other)

abbrev pub NoSplit : Data → Type 0
NoSplit d = (source child : List ℕ) (mode : Mode) (rect : Rect) → ¬ IsCommand d (Split source child mode rect)

abbrev pub NoMerge : Data → Type 0
NoMerge d = (child into : List ℕ) (ticket : ℤ) → ¬ IsCommand d (Merge child into ticket)

-- what an object with this word asks for
pub no_command : (d : Data) (word : List ℕ) → IsTextAt d (codes "command") word
    → (word ≡ codes "add" → NoAddition d)
    → (word ≡ codes "delete" → NoDeletion d) → (word ≡ codes "link" → NoLink d)
    → (word ≡ codes "unlink" → NoUnlink d)
    → (word ≡ codes "split" → NoSplit d) → (word ≡ codes "merge" → NoMerge d)
    → (asked : Command) → ¬ IsCommand d asked
no_command d word there add delete link unlink split merge (Add target identity content) is =
    add (some_once _ _ _ there is.0) target identity content is
no_command d word there add delete link unlink split merge (Delete source identity) is =
    delete (some_once _ _ _ there is.0) source identity is
no_command d word there add delete link unlink split merge (Link target mapping base other) is =
    link (some_once _ _ _ there is.0) target base other mapping is
no_command d word there add delete link unlink split merge (Unlink source mapping base other) is =
    unlink (some_once _ _ _ there is.0) source base other mapping is
no_command d word there add delete link unlink split merge (Split source child mode rect) is =
    split (some_once _ _ _ there is.0) source child mode rect is
no_command d word there add delete link unlink split merge (Merge child into ticket) is =
    merge (some_once _ _ _ there is.0) child into ticket is
