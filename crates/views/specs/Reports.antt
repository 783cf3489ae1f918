-- What a manifest and an audit say of a world, and how they end. Profile.
use Rattle.std.specs.Prelude.{◌≡◌, ◌⊎◌, ◌++◌, ℕ, List, codes, decimal, fold, max, Option, Result}
use Rattle.sqlite.specs.Store.{Ghosts}
use Rattle.sheet_types.specs.Answers.{PackageSight, package_sights}
use Rattle.sheet_types.specs.World.{World}
use Rattle.opening_faults.specs.declared.faults.RecoverFault.TheVariants as fault
use Rattle.world.specs.Worlds.{IsRead, Seen, StandsFor}
use Rattle.manifest_csv.specs.PackageManifests.{IsManifest, WritesNothing}
use Rattle.manifest_csv.specs.declared.package_manifests.ManifestFault.{ManifestFault}
use Rattle.command_folder.specs.Endings.{done, manifest_ending}
use Rattle.command_folder.specs.Printing.{Prints}
use Rattle.command_folder.specs.declared.endings.Ending.{Ending}
use Rattle.command_folder.specs.declared.endings.Ending.TheVariants.{Faulted}
use Rattle.command_folder.specs.declared.endings.OpenFault.TheVariants.{Fault}

abbrev pub good_line : ℕ → List ℕ
good_line receipts = codes "good " ++ (decimal receipts ++ codes "\n")

-- the greatest of the numbers of the last receipts of packages
abbrev pub last_ticket : List PackageSight → ℕ
last_ticket sights = fold (λ n s. max n s.ticket) 0 sights

-- the number of the last receipt that names a live package, which is that of all receipts
abbrev pub last_receipt : World → ℕ
last_receipt w = last_ticket (package_sights w)

-- what gave out before the line was written
abbrev pub IsUntold : Ending → Type 0
IsUntold ending = (ending ≡ Faulted (Fault fault.OutOfMemory)) ⊎ (ending ≡ Faulted (Fault fault.StoreFault))

module _ {S : Type 0} (g : Ghosts S) where
  -- what is written of a package, and how the program ends then
  abbrev pub EndsManifest : {W : Type 0} → List ℕ → Seen S → Seen S → W → W → Option (List ℕ)
      → Option (List ℕ)
      → Ending → Type 0
  EndsManifest p old new writer writer' before after ending =
      (r : Result (Unit {0}) ManifestFault) × (ending ≡ manifest_ending r) × IsRead g old new
      × IsManifest g p old new before after r × WritesNothing writer writer' r

  -- the line of a world whose packages are good
  abbrev pub Audits : {W : Type 0} → Seen S → W → W → Option (List ℕ) → Option (List ℕ) → Ending
      → Type 0
  Audits seen writer writer' before after ending =
      ((w : World) → StandsFor g seen w → Prints (good_line (last_receipt w)) done before after ending)
      ⊎ (IsUntold ending × (writer' ≡ writer))
