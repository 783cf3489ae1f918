-- Where an item is held in a world, and its links there. Profile.
use Rattle.std.specs.Prelude.{◌≡◌, ℕ, Bool, true, false, List, Option, Some, None, bytes_eq}
use Rattle.std.specs.List.{AllByRecursion, list_any}
use Rattle.sheet_types.specs.Answers.{PackageSight, package_sights}
use Rattle.sheet_types.specs.World.{World, holdings}
use Rattle.sheet_types.specs.declared.command.Item.{Item}
use Rattle.sheet_types.specs.declared.command.Relation.{Relation}
use Rattle.command_plans.specs.Drops.{links_of}
use Rattle.command_verbs.specs.declared.names.PackageEntry.{PackageEntry}
use Rattle.command_drops.specs.declared.holding.Holding.{Holding}

-- an item is among these
abbrev pub holds : List Item → List ℕ → Bool
holds items id = list_any (λ (i : Item). bytes_eq i.identity id) items

-- it is held, and these are its links among those of the package; or it is not held
abbrev pub AreLinksOf : List Item → List Relation → List ℕ → Option (List Relation) → Type 0
AreLinksOf items links id (Some found) = (holds items id ≡ true) × (found ≡ links_of id links)
AreLinksOf items links id None = holds items id ≡ false

-- the same of a package of a world
abbrev pub AreLinksIn : World → List ℕ → List ℕ → Option (List Relation) → Type 0
AreLinksIn w p id found = AreLinksOf (holdings w p).items (holdings w p).links id found

-- no package of this UUID holds it
abbrev pub IsNotHeld : World → List ℕ → List ℕ → Type 0
IsNotHeld w id p = holds (holdings w p).items id ≡ false

-- this package holds it, with these links
abbrev pub IsHolder : World → List ℕ → Holding → Type 0
IsHolder w id h = AreLinksIn w h.holder id (Some h.links.items)

-- so it is found among packages that were listed
abbrev pub IsHeldAmong : World → List PackageEntry → List ℕ → Option Holding → Type 0
IsHeldAmong w packages id (Some h) = IsHolder w id h
IsHeldAmong w packages id None = AllByRecursion (λ (p : PackageEntry). IsNotHeld w id p.uuid) packages

-- so it is found in a world
abbrev pub IsHeldIn : World → List ℕ → Option Holding → Type 0
IsHeldIn w id (Some h) = IsHolder w id h
IsHeldIn w id None = AllByRecursion (λ (s : PackageSight). IsNotHeld w id s.uuid) (package_sights w)
