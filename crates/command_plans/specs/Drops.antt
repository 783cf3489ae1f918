-- The commands that drop an item: each of its links is ended, and then it is deleted. Profile.
use Rattle.std.specs.Prelude.{◌||◌, ◌++◌, ◌∷◌, [], ℕ, Bool, List, filter, map, bytes_eq}
use Rattle.sheet_types.specs.declared.command.Command.{Command}
use Rattle.sheet_types.specs.declared.command.Command.TheVariants.{Delete, Unlink}
use Rattle.sheet_types.specs.declared.command.Relation.{Relation}

-- an item is an end of a link
abbrev pub has_end : List ℕ → Relation → Bool
has_end id link = bytes_eq link.base id || bytes_eq link.other id

-- the links of an item, among those of its package
abbrev pub links_of : List ℕ → List Relation → List Relation
links_of id links = filter (has_end id) links

abbrev pub unlink : List ℕ → Relation → Command
unlink holder link = Unlink holder link.mapping link.base link.other

-- of an item that has these links
abbrev pub drop_commands : List ℕ → List ℕ → List Relation → List Command
drop_commands holder id links = map (unlink holder) links ++ (Delete holder id ∷ [])
