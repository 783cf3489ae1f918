-- A record asks for nothing where it asks for nothing with the word that it has.
use Rattle.std.specs.Prelude.{◌≡◌, ℕ, ℤ, List, codes}
use Rattle.sheet_types.proofs.Basics.{some_once}
use Rattle.sheet_types.specs.declared.command.Content.{Content}
use Rattle.sheet_types.specs.declared.command.Mapping.{Mapping}
use Rattle.sheet_types.specs.declared.command.Mode.{Mode}
use Rattle.sheet_types.specs.declared.command.Command.{Command}
use Rattle.sheet_types.specs.declared.command.Command.TheVariants.{Add, Delete, Link, Unlink, Split, Merge}
use Rattle.sheet_types.specs.declared.frame.Rect.{Rect}
use Rattle.request_csv.specs.Requests.{IsCommand, IsTextAt}

abbrev pub NoAddition : List (List ℕ) → Type 0
NoAddition fields = (target identity : List ℕ) (content : Content)
    → ¬ IsCommand fields (Add target identity content)

abbrev pub NoDeletion : List (List ℕ) → Type 0
NoDeletion fields = (source identity : List ℕ) → ¬ IsCommand fields (Delete source identity)

abbrev pub NoLink : List (List ℕ) → Type 0
NoLink fields = (target base other : List ℕ) (mapping : Mapping)
    → ¬ IsCommand fields (Link target mapping base other)

abbrev pub NoUnlink : List (List ℕ) → Type 0
NoUnlink fields = (source base other : List ℕ) (mapping : Mapping)
    → ¬ IsCommand fields (Unlink source mapping base other)

abbrev pub NoSplit : List (List ℕ) → Type 0
NoSplit fields = (source child : List ℕ) (mode : Mode) (rect : Rect)
    → ¬ IsCommand fields (Split source child mode rect)

abbrev pub NoMerge : List (List ℕ) → Type 0
NoMerge fields = (child into : List ℕ) (ticket : ℤ) → ¬ IsCommand fields (Merge child into ticket)

-- what a record with this word asks for
pub no_command : (fields : List (List ℕ)) (word : List ℕ) → IsTextAt fields 2 word
    → (word ≡ codes "add" → NoAddition fields)
    → (word ≡ codes "delete" → NoDeletion fields) → (word ≡ codes "link" → NoLink fields)
    → (word ≡ codes "unlink" → NoUnlink fields)
    → (word ≡ codes "split" → NoSplit fields) → (word ≡ codes "merge" → NoMerge fields)
    → (asked : Command) → ¬ IsCommand fields asked
no_command fields word there add delete link unlink split merge (Add target identity content) is =
    add (some_once _ _ _ there is.0) target identity content is
no_command fields word there add delete link unlink split merge (Delete source identity) is =
    delete (some_once _ _ _ there is.0) source identity is
no_command fields word there add delete link unlink split merge (Link target mapping base other) is =
    link (some_once _ _ _ there is.0) target base other mapping is
no_command fields word there add delete link unlink split merge (Unlink source mapping base other) is =
    unlink (some_once _ _ _ there is.0) source base other mapping is
no_command fields word there add delete link unlink split merge (Split source child mode rect) is =
    split (some_once _ _ _ there is.0) source child mode rect is
no_command fields word there add delete link unlink split merge (Merge child into ticket) is =
    merge (some_once _ _ _ there is.0) child into ticket is
