-- What an export makes of a world, what it prints, and how it ends. Profile.
use Rattle.std.specs.Prelude.{◌≡◌, ℕ, List, Option, Result}
use Rattle.sqlite.specs.Store.{Ghosts}
use Rattle.world.specs.Worlds.{IsRead, Seen}
use Rattle.manifest_csv.specs.declared.package_manifests.ManifestFault.{ManifestFault}
use Rattle.command_folder.specs.Endings.{manifest_ending}
use Rattle.command_folder.specs.declared.endings.Ending.{Ending}
use Rattle.view_world.specs.Looks.{LeavesOpen}
use Rattle.views.specs.Written.{IsExport, LeavesUnknown}

module _ {S : Type 0} (g : Ghosts S) {W : Type 0} (p : List ℕ) (old new : Seen S) (writer writer' : W) where
  -- what is written of a package, and how the program ends then: as after a manifest
  abbrev pub EndsExport : Option (List ℕ) → Option (List ℕ) → Ending → Type 0
  EndsExport before after ending =
      (r : Result (Unit {0}) ManifestFault) × (ending ≡ manifest_ending r)
      × IsRead g old new × IsExport g p old new before after r × LeavesUnknown writer writer' r
      × LeavesOpen g old new r
