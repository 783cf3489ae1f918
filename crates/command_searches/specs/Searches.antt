-- Which package or item a word names in a world. Profile.
use Rattle.std.specs.Prelude.{ℕ, List, map, flat_map}
use Rattle.sheet_types.specs.Answers.{PackageSight, package_sights}
use Rattle.sheet_types.specs.World.{World, holdings}
use Rattle.sheet_types.specs.declared.command.Item.{Item}
use Rattle.command_names.specs.Searching.{IsFound}
use Rattle.command_names.specs.declared.searching.Found.{Found}

-- among the live packages, by UUID
abbrev pub IsPackageFound : World → List ℕ → Found → Type 0
IsPackageFound w word found = IsFound word (map (λ (s : PackageSight). s.uuid) (package_sights w)) found

-- the identities of the items that a package holds
abbrev pub identities_under : World → List ℕ → List (List ℕ)
identities_under w p = map (λ (i : Item). i.identity) (holdings w p).items

-- of all that live packages hold, one package after the other
abbrev pub world_identities : World → List (List ℕ)
world_identities w = flat_map (λ (s : PackageSight). identities_under w s.uuid) (package_sights w)

abbrev pub IsItemFound : World → List ℕ → Found → Type 0
IsItemFound w word found = IsFound word (world_identities w) found
