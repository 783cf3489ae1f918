-- Words that a column has, as those of some command or some content.
use Rattle.std.proofs.Common.{◌≡◌, ℕ, pos, List, [], Bool, true, IsTrue, Option, Some, None, IfSome, IfNone}
use Rattle.std.proofs.Common.{is_some}
use Rattle.sheet_types.specs.Texts.{kind_of, kind_word}
use Rattle.sheet_types.specs.declared.command.Command.{Command}
use Rattle.sheet_types.specs.declared.command.Command.TheVariants.{Add, Delete, Link, Unlink, Split, Merge}
use Rattle.sheet_types.specs.declared.command.Content.{Content}
use Rattle.sheet_types.specs.declared.command.Content.TheVariants.{Tile, Media, Row}
use Rattle.sheet_types.specs.declared.command.Mapping.TheVariants.{TilesMedia}
use Rattle.sheet_types.specs.declared.command.Mode.TheVariants.{Strict}
use Rattle.request_csv.specs.Requests.{IsTextAt, command_word}
use Rattle.request_csv.specs.Forms.{MeetsAt}
use Rattle.request_csv.specs.declared.forms.Want.TheVariants.{CommandWord, KindWord}

-- a command of each word
abbrev pub an_addition : Command
an_addition = Add [] [] (Media [] [])

abbrev pub a_deletion : Command
a_deletion = Delete [] []

abbrev pub a_link : Command
a_link = Link [] TilesMedia [] []

abbrev pub an_unlink : Command
an_unlink = Unlink [] TilesMedia [] []

abbrev pub a_split : Command
a_split = Split [] [] Strict (record {
  zoom = pos 0;
  column = pos 0;
  last_column = pos 0;
  row = pos 0;
  last_row = pos 0;
})

abbrev pub a_merge : Command
a_merge = Merge [] [] (pos 0)

pub met_by : (fields : List (List ℕ)) (column : ℕ) (command : Command)
    → IsTextAt fields column (command_word command)
    → (IsTrue true → MeetsAt fields column CommandWord) × (MeetsAt fields column CommandWord → IsTrue true)
met_by fields column command there = (λ yes. (command, there), λ met. search)

-- a content of each kind
abbrev pub a_tile : Content
a_tile = Tile (pos 0) (pos 0) (pos 0) []

abbrev pub a_medium : Content
a_medium = Media [] []

abbrev pub a_row : Content
a_row = Row (pos 0) (pos 0) (pos 0) []

pub met_by_kind : (fields : List (List ℕ)) (column : ℕ) (content : Content)
    → IsTextAt fields column (kind_word (kind_of content))
    → (IsTrue true → MeetsAt fields column KindWord) × (MeetsAt fields column KindWord → IsTrue true)
met_by_kind fields column content there = (λ yes. (content, there), λ met. search)

-- something is there just where it was found
pub found_there : {X Y : Type 0} (view : X → Y) (Is : Y → Type 0) (found : Option X) (met : Bool)
    → met ≡ is_some found → IfSome found (λ x. Is (view x)) → IfNone found ((y : Y) → ¬ Is y)
    → (IsTrue met → (y : Y) × Is y) × ((y : Y) × Is y → IsTrue met)
found_there view Is (Some x) met told some none = (λ yes. (view x, some), λ there. search)
found_there view Is None met told some none = (λ yes. absurd (cc), λ there. absurd (none there.0 there.1))
