-- What each column of a record has to be, by the words of its command and its kind, and the first column that is not
-- (profile).
use Rattle.std.specs.Prelude.{◌≡◌, ◌⊎◌, ℕ, ℤ, suc, List, [], ◌∷◌, ⊤, codes, get_or}
use Rattle.sheet_types.specs.Texts.{kind_of, kind_word, mapping_word, mode_word}
use Rattle.sheet_types.specs.declared.command.Command.{Command}
use Rattle.sheet_types.specs.declared.command.Content.{Content}
use Rattle.sheet_types.specs.declared.command.Mapping.{Mapping}
use Rattle.sheet_types.specs.declared.command.Mode.{Mode}
use Rattle.sheet_types.specs.declared.command.Request.{Request}
use Rattle.sheet_types.specs.declared.receipt.MovedKind.TheVariants.{TileItem, MediaItem, RowItem}
use Rattle.request_csv.specs.Requests.{IsHexAt, IsNumberAt, IsRequest, IsTextAt, IsUuidAt, command_word, header}
use Rattle.request_csv.specs.declared.forms.Want.{Want}
use Rattle.request_csv.specs.declared.forms.Want.TheVariants.{ItsName, Anything, Identity, Number, Hexadecimal}
use Rattle.request_csv.specs.declared.forms.Want.TheVariants.{Nothing, CommandWord, KindWord, MappingWord, ModeWord}
use Rattle.request_csv.specs.declared.forms.Form.{Form}
use Rattle.request_csv.specs.declared.forms.Form.TheVariants as form
use Rattle.request_csv.specs.declared.forms.ColumnFault.{ColumnFault}

-- the name of a column; nothing where there is no such column
abbrev pub column_name : ℕ → List ℕ
column_name column = get_or header column []

-- the field of this column is what it has to be
abbrev pub MeetsAt : List (List ℕ) → ℕ → Want → Type 0
MeetsAt fields column ItsName = IsTextAt fields column (column_name column)
MeetsAt fields column Anything = (text : List ℕ) × IsTextAt fields column text
MeetsAt fields column Identity = (id : List ℕ) × IsUuidAt fields column id
MeetsAt fields column Number = (number : ℤ) × IsNumberAt fields column number
MeetsAt fields column Hexadecimal = (bytes : List ℕ) × IsHexAt fields column bytes
MeetsAt fields column Nothing = IsTextAt fields column []
MeetsAt fields column CommandWord = (command : Command) × IsTextAt fields column (command_word command)
MeetsAt fields column KindWord = (content : Content) × IsTextAt fields column (kind_word (kind_of content))
MeetsAt fields column MappingWord = (mapping : Mapping) × IsTextAt fields column (mapping_word mapping)
MeetsAt fields column ModeWord = (mode : Mode) × IsTextAt fields column (mode_word mode)

-- the fields from this column on are what they have to be
abbrev pub MeetFrom : List (List ℕ) → ℕ → List Want → Type 0
MeetFrom fields column [] = ⊤
MeetFrom fields column (want ∷ wants) = MeetsAt fields column want × MeetFrom fields (suc column) wants

-- the first column, from this one on, that is not what it has to be
abbrev pub IsFirstUnmet : List (List ℕ) → ℕ → List Want → ColumnFault → Type 0
IsFirstUnmet fields column [] fault = ⊥
IsFirstUnmet fields column (want ∷ wants) fault =
    ((fault.column ≡ column) × (fault.want ≡ want) × ¬ MeetsAt fields column want)
    ⊎ (MeetsAt fields column want × IsFirstUnmet fields (suc column) wants fault)

-- what a record asks for, by its words
abbrev pub IsForm : List (List ℕ) → Form → Type 0
IsForm fields form.Tile = IsTextAt fields 2 (codes "add") × IsTextAt fields 6 (kind_word TileItem)
IsForm fields form.Medium = IsTextAt fields 2 (codes "add") × IsTextAt fields 6 (kind_word MediaItem)
IsForm fields form.Row = IsTextAt fields 2 (codes "add") × IsTextAt fields 6 (kind_word RowItem)
IsForm fields form.Addition = IsTextAt fields 2 (codes "add") × ¬ MeetsAt fields 6 KindWord
IsForm fields form.Deletion = IsTextAt fields 2 (codes "delete")
IsForm fields form.Link = IsTextAt fields 2 (codes "link") ⊎ IsTextAt fields 2 (codes "unlink")
IsForm fields form.Split = IsTextAt fields 2 (codes "split")
IsForm fields form.Merge = IsTextAt fields 2 (codes "merge")
IsForm fields form.Unknown = ¬ MeetsAt fields 2 CommandWord

-- what the columns have to be from `package` on, by what is asked for
abbrev pub wants_of : Form → List Want
wants_of form.Tile = Identity ∷ Identity ∷ Nothing ∷ KindWord ∷ Number ∷ Number ∷ Number ∷ Nothing
    ∷ Nothing
    ∷ Nothing ∷ Nothing ∷ Nothing ∷ Nothing ∷ Nothing ∷ Hexadecimal ∷ []
wants_of form.Medium = Identity ∷ Identity ∷ Nothing ∷ KindWord ∷ Nothing ∷ Nothing ∷ Nothing ∷ Nothing
    ∷ Nothing
    ∷ Nothing ∷ Nothing ∷ Nothing ∷ Nothing ∷ Anything ∷ Hexadecimal ∷ []
wants_of form.Row = Identity ∷ Identity ∷ Nothing ∷ KindWord ∷ Nothing ∷ Nothing ∷ Nothing ∷ Nothing
    ∷ Nothing
    ∷ Number ∷ Number ∷ Number ∷ Nothing ∷ Anything ∷ Nothing ∷ []
wants_of form.Addition = Identity ∷ Identity ∷ Nothing ∷ KindWord ∷ []
wants_of form.Deletion = Identity ∷ Identity ∷ Nothing ∷ Nothing ∷ Nothing ∷ Nothing ∷ Nothing ∷ Nothing
    ∷ Nothing
    ∷ Nothing ∷ Nothing ∷ Nothing ∷ Nothing ∷ Nothing ∷ Nothing ∷ []
wants_of form.Link = Identity ∷ Identity ∷ Identity ∷ MappingWord ∷ Nothing ∷ Nothing ∷ Nothing
    ∷ Nothing ∷ Nothing
    ∷ Nothing ∷ Nothing ∷ Nothing ∷ Nothing ∷ Nothing ∷ Nothing ∷ []
wants_of form.Split = Identity ∷ Nothing ∷ Identity ∷ ModeWord ∷ Number ∷ Number ∷ Number ∷ Number
    ∷ Number
    ∷ Nothing ∷ Nothing ∷ Nothing ∷ Nothing ∷ Nothing ∷ Nothing ∷ []
wants_of form.Merge = Identity ∷ Nothing ∷ Identity ∷ Nothing ∷ Nothing ∷ Nothing ∷ Nothing ∷ Nothing
    ∷ Nothing
    ∷ Nothing ∷ Nothing ∷ Nothing ∷ Number ∷ Nothing ∷ Nothing ∷ []
wants_of form.Unknown = []

-- what all columns of a record have to be
abbrev pub columns_of : Form → List Want
columns_of form = Identity ∷ Anything ∷ CommandWord ∷ wants_of form

-- the first column of a record that is not what it has to be
abbrev pub IsColumnAtFault : List (List ℕ) → ColumnFault → Type 0
IsColumnAtFault fields fault = (form : Form) × IsForm fields form × IsFirstUnmet fields 0 (columns_of form) fault

-- what all columns of a header have to be
abbrev pub header_wants : List Want
header_wants = ItsName ∷ ItsName ∷ ItsName ∷ ItsName ∷ ItsName ∷ ItsName ∷ ItsName ∷ ItsName ∷ ItsName
    ∷ ItsName ∷ ItsName ∷ ItsName ∷ ItsName ∷ ItsName ∷ ItsName ∷ ItsName ∷ ItsName ∷ ItsName ∷ []

-- a record with such a column is no request
abbrev pub FaultAsksNothing : Type 0
FaultAsksNothing = (fields : List (List ℕ)) (fault : ColumnFault) (request : Request) → IsColumnAtFault fields fault
    → ¬ IsRequest fields request
