-- What is written of a package of a world. Profile.
use Rattle.std.specs.Prelude.{◌≡◌, ℕ, true, false, List, Option, Result, Ok, Err}
use Rattle.std.specs.Io.KnownBytes.{Appends}
use Rattle.sqlite.specs.Store.{Ghosts}
use Rattle.sheet_types.specs.World.{World, is_live, holdings}
use Rattle.world_members.specs.Members.{AllClean}
use Rattle.world.specs.Worlds.{Seen, StandsFor}
use Rattle.manifest_csv.specs.Manifests.{manifest_of}
use Rattle.manifest_csv.specs.Sent.{WentOut}
use Rattle.manifest_csv.specs.declared.package_manifests.ManifestFault.{ManifestFault}
use Rattle.manifest_csv.specs.declared.package_manifests.ManifestFault.TheVariants.{Unknown, Failed, Unwritten}

-- the manifest of a package: its items, and then its links
abbrev pub manifest : World → List ℕ → List ℕ
manifest w p = manifest_of (holdings w p).items (holdings w p).links

-- A live package's manifest is written whole, or a beginning of it where the writer failed; of another nothing is.
abbrev pub WritesManifest : World → List ℕ → Option (List ℕ) → Option (List ℕ)
    → Result (Unit {0}) ManifestFault
    → Type 0
WritesManifest w p before after (Ok x) = (is_live w p ≡ true) × Appends before after (manifest w p)
WritesManifest w p before after (Err Unknown) = is_live w p ≡ false
WritesManifest w p before after (Err (Failed fault)) = Unit {0}
WritesManifest w p before after (Err Unwritten) = (is_live w p ≡ true) × WentOut before after (manifest w p)

-- Nothing is written where the manifest could not be made.
abbrev pub WritesNothing : {W : Type 0} → W → W → Result (Unit {0}) ManifestFault → Type 0
WritesNothing old new (Ok x) = Unit {0}
WritesNothing old new (Err Unknown) = new ≡ old
WritesNothing old new (Err (Failed fault)) = new ≡ old
WritesNothing old new (Err Unwritten) = Unit {0}

-- The same of each world that a value stood for, where each disk has given back what was written.
abbrev pub IsManifest : {S : Type 0} → Ghosts S → List ℕ → Seen S → Seen S → Option (List ℕ)
    → Option (List ℕ)
    → Result (Unit {0}) ManifestFault → Type 0
IsManifest g p old new before after r = AllClean g new.members → (w : World) → StandsFor g old w
    → WritesManifest w p before after r
