-- The pieces of a custody page (HTML 5). Profile.
use Rattle.std.specs.Prelude.{ℕ, bytes_eq, ◌&&◌, List, ◌++◌, Option, codes, find}
use Rattle.std.specs.Option.{option_map_or}
use Rattle.sheet_types.specs.Texts.{uuid_text}
use Rattle.view_report.specs.Pieces.{about_text, called, holder_class, name_text, short_text}
use Rattle.view_report.specs.Registers.{thing_found}
use Rattle.view_report.specs.declared.registers.Name.{Name}
use Rattle.view_report.specs.declared.registers.Register.{Register}
use Rattle.view_report.specs.declared.registers.Tie.{Tie}

-- a package in its colour while it lives, which leads nowhere
abbrev pub keeper_text : Register → List ℕ → List ℕ
keeper_text r id =
    codes "<span class=\"h " ++ (holder_class r id ++ (codes "\">" ++ (name_text r.names id ++ codes "</span>")))

-- an end of a receipt, or a word where it has none
abbrev pub keeper_or : Register → Option (List ℕ) → List ℕ → List ℕ
keeper_or r end none = option_map_or (keeper_text r) end none

-- what people call a package, if they do, and its whole UUID
abbrev pub whole_name : List Name → List ℕ → List ℕ
whole_name names id = called names id ++ (codes "<code>" ++ (uuid_text id ++ codes "</code>"))

-- an item in a few words where a package holds it, else its identity
abbrev pub told_item : Register → List ℕ → List ℕ
told_item r id = option_map_or (about_text r.names) (thing_found r.things id) (short_text id)

abbrev pub told_pair : Register → List ℕ → List ℕ → List ℕ
told_pair r base other = told_item r base ++ (codes " &harr; " ++ told_item r other)

-- the link of two ends, where a package holds it
abbrev pub tie_found : List Tie → List ℕ → List ℕ → Option Tie
tie_found ties base other = find (λ t. bytes_eq t.base base && bytes_eq t.other other) ties
