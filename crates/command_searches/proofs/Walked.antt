-- What was found package by package was found in the world.
use Rattle.std.proofs.Common.{◌≡◌, ◌∙◌, ◌++◌, ◌∷◌, [], ℕ, List, Some, refl, ap, map}
use Rattle.std.specs.Prelude.{flat_map}
use Rattle.sheet_types.specs.Answers.{PackageSight as ModelSight, holdings_answer, package_sights}
use Rattle.sheet_types.specs.World.{World}
use Rattle.sheet_types.specs.declared.command.Item.{Item}
use Rattle.sheet_types.specs.declared.command.Relation.{Relation}
use Rattle.command_verbs.specs.Names.{sight}
use Rattle.command_verbs.specs.declared.names.PackageEntry.{PackageEntry}
use Rattle.command_requests.proofs.Listed.{held_items}
use Rattle.command_searches.specs.Searches.{identities_under}

-- the UUIDs of packages that were listed
pub uuids_listed : (entries : List PackageEntry) → map (λ (p : PackageEntry). p.uuid) entries
    ≡ map (λ (s : ModelSight). s.uuid) (map sight entries)
uuids_listed [] = refl
uuids_listed (e ∷ entries) = ap (λ l. e.uuid ∷ l) (uuids_listed entries)

-- the identities that they hold
flat_listed : (w : World) (entries : List PackageEntry)
    → flat_map (λ (p : PackageEntry). identities_under w p.uuid) entries
    ≡ flat_map (λ (s : ModelSight). identities_under w s.uuid) (map sight entries)
flat_listed w [] = refl
flat_listed w (e ∷ entries) = ap (λ l. identities_under w e.uuid ++ l) (flat_listed w entries)

pub all_identities : (w : World) (entries : List PackageEntry) → map sight entries ≡ package_sights w
    → flat_map (λ (p : PackageEntry). identities_under w p.uuid) entries
    ≡ flat_map (λ (s : ModelSight). identities_under w s.uuid) (package_sights w)
all_identities w entries are = flat_listed w entries ∙ ap (flat_map
    (λ (s : ModelSight). identities_under w s.uuid)) are

-- the items that were found are those of the package
pub identities_found : (w : World) (p : List ℕ) (items : List Item) (links : List Relation)
    → Some (items, links) ≡ holdings_answer w p
    → map (λ (i : Item). i.identity) items ≡ identities_under w p
identities_found w p items links found = ap (map (λ (i : Item). i.identity)) (held_items w p items links found)
