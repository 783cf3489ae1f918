-- The one that a word names, of what was found for it. Profile.
use Rattle.std.specs.Prelude.{ℕ, List, length, nat_lt, Result, Ok, Err, if◌then◌else◌}
use Rattle.command_names.specs.declared.searching.Found.{Found}
use Rattle.command_names.specs.declared.searching.Found.TheVariants as found
use Rattle.command_verbs.specs.declared.names.NameFault.{NameFault}
use Rattle.command_verbs.specs.declared.names.NameFault.TheVariants.{Short, Unknown, Two}

abbrev pub of_found : Found → Result (List ℕ) NameFault
of_found (found.One id) = Ok id
of_found (found.Two one other) = Err (Two one other)
of_found (found.Nearest nearest) = Err Unknown

-- a name has at least four characters
abbrev pub named : List ℕ → Found → Result (List ℕ) NameFault
named word it = if nat_lt (length word) 4 then Err Short else of_found it
