-- What a person is told beside a name that is none. Profile.
use Rattle.std.specs.Prelude.{◌++◌, ℕ, List, codes}
use Rattle.sheet_types.specs.Texts.{uuid_text}
use Rattle.command_names.specs.declared.hints.Hint.{Hint}
use Rattle.command_names.specs.declared.hints.Whose.{Whose}
use Rattle.command_names.specs.declared.hints.Whose.TheVariants.{Package, Item}

abbrev pub whose_word : Whose → List ℕ
whose_word Package = codes "package"
whose_word Item = codes "item"

-- without the end of a line
abbrev pub hint_line : Hint → List ℕ
hint_line h =
    codes "no " ++ (whose_word h.whose ++ (codes " begins with " ++ (h.word.now
    ++ (codes "; do you mean " ++ (uuid_text h.nearest ++ codes "?")))))
