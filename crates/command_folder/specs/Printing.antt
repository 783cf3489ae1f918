-- What a subcommand prints of a text. Profile.
use Rattle.std.specs.Prelude.{◌≡◌, ◌⊎◌, ◌++◌, ◌∷◌, [], ℕ, List, Option}
use Rattle.std.specs.Io.KnownBytes.{Appends}
use Rattle.manifest_csv.specs.Sent.{WentOut}
use Rattle.command_folder.specs.Endings.{failed}
use Rattle.command_folder.specs.declared.endings.Ending.{Ending}

-- A text went out whole, and the program ends as is due; or the writer failed, and a beginning of the text went out.
abbrev pub Prints : List ℕ → Ending → Option (List ℕ) → Option (List ℕ) → Ending → Type 0
Prints text due before after ending = ((ending ≡ due) × Appends before after text)
    ⊎ ((ending ≡ failed) × WentOut before after text)

-- a text and the end of its line
abbrev pub with_end : List ℕ → List ℕ
with_end text = text ++ (10 ∷ [])
