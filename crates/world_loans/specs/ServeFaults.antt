-- How a request ends that was neither answered nor carried out, and what is asked of a shelf. Profile.
use Rattle.std.specs.Prelude.{◌≡◌, ◌≢◌, ◌≤◌, ℕ, Result, Ok, Err}
use Rattle.sqlite_disk.specs.Disk.{MoreFaults}
use Rattle.sheet_types.specs.declared.refusal.Refusal.{Refusal}
use Rattle.package_tables.specs.declared.fault.Fault.{Fault}
use Rattle.package_tables.specs.declared.fault.Fault.TheVariants as fault
use Rattle.store_faults.specs.declared.shelf.ShelfFault.{ShelfFault}
use Rattle.store_faults.specs.declared.shelf.ShelfFault.TheVariants as shelf
use Rattle.register_lending.specs.Faults.{fault_refusal, turn_refusal}
use Rattle.register_lending.specs.declared.turn_fault.TurnFault.TheVariants.{Before}
use Rattle.world_loans.specs.declared.loans.ServeFault.{ServeFault}
use Rattle.world_loans.specs.declared.loans.ServeFault.TheVariants.{Unshelved, Turn}

abbrev pub shelf_fault : ShelfFault → Fault
shelf_fault shelf.OutOfMemory = fault.OutOfMemory
shelf_fault shelf.StoreFault = fault.StoreFault

abbrev pub told_refusal : ServeFault → Refusal
told_refusal (Unshelved why) = fault_refusal why
told_refusal (Turn turn) = turn_refusal turn

-- a store of the world failed, or a commit answered an error
abbrev pub IsLastingFault : ServeFault → Type 0
IsLastingFault (Unshelved why) = ⊥
IsLastingFault (Turn turn) = turn ≢ Before fault.OutOfMemory

-- Only where the shelf had no store its count rose, and else it is as it was.
abbrev pub CountsShelf : {X : Type 0} → Result X ServeFault → ℕ → ℕ → Type 0
CountsShelf (Ok x) old new = new ≡ old
CountsShelf (Err (Unshelved why)) old new = MoreFaults old new × (old ≤ new)
CountsShelf (Err (Turn turn)) old new = new ≡ old
