-- What gives out where a part of the program fails. Profile.
use Rattle.package_tables.specs.declared.fault.Fault.{Fault}
use Rattle.package_tables.specs.declared.fault.Fault.TheVariants as fault
use Rattle.manifest_csv.specs.declared.package_manifests.ManifestFault.{ManifestFault}
use Rattle.manifest_csv.specs.declared.package_manifests.ManifestFault.TheVariants as manifest
use Rattle.store_faults.specs.declared.shelf.ShelfFault.{ShelfFault}
use Rattle.store_faults.specs.declared.shelf.ShelfFault.TheVariants as shelf
use Rattle.world.specs.declared.creating.CreateFault.{CreateFault}
use Rattle.world.specs.declared.creating.CreateFault.TheVariants as create
use Rattle.command_words.specs.declared.statuses.Failure.{Failure}
use Rattle.command_words.specs.declared.statuses.Failure.TheVariants.{OutOfMemory, StoreFault}

-- of a store
abbrev pub of_fault : Fault → Failure
of_fault fault.OutOfMemory = OutOfMemory
of_fault fault.StoreFault = StoreFault

-- of a shelf
abbrev pub of_shelf : ShelfFault → Failure
of_shelf shelf.OutOfMemory = OutOfMemory
of_shelf shelf.StoreFault = StoreFault

-- of a new world. Its words are read before, so that a frame or a moment that is not good is a fault of the store
abbrev pub of_creation : CreateFault → Failure
of_creation (create.Failed fault) = of_fault fault
of_creation (create.BadFrame broken) = StoreFault
of_creation create.BadText = StoreFault

-- of a manifest. The packages that are named are live, so that an unknown one is a fault of the store
abbrev pub of_manifest : ManifestFault → Failure
of_manifest (manifest.Failed fault) = of_fault fault
of_manifest manifest.Unknown = StoreFault
of_manifest manifest.Unwritten = StoreFault
