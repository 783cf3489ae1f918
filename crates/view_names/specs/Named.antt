-- Which record of a file of names is which name. Profile, over RFC 9562 for UUIDs.
use Rattle.std.specs.Prelude.{ℕ, List, [], ◌∷◌, codes}
use Rattle.request_csv.specs.Requests.{IsTextAt, IsUuidAt}
use Rattle.view_report.specs.declared.registers.Name.{Name}

-- the names of the columns, in their order
abbrev pub header : List (List ℕ)
header = codes "uuid" ∷ codes "name" ∷ []

-- a record that is this name: the UUID of a package or of a sheet, and what people call it
abbrev pub IsNamed : List (List ℕ) → Name → Type 0
IsNamed fields name = IsUuidAt fields 0 name.uuid × IsTextAt fields 1 name.name
