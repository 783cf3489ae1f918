-- How a fault of a store is told in a reply. Profile.
use Rattle.sheet_types.specs.declared.refusal.Refusal.{Refusal}
use Rattle.sheet_types.specs.declared.refusal.Refusal.TheVariants.{OutOfMemory, StoreFault}
use Rattle.package_tables.specs.declared.fault.Fault.{Fault}
use Rattle.package_tables.specs.declared.fault.Fault.TheVariants as fault
use Rattle.register_lending.specs.declared.turn_fault.TurnFault.{TurnFault}
use Rattle.register_lending.specs.declared.turn_fault.TurnFault.TheVariants.{Before, Committing}

abbrev pub fault_refusal : Fault → Refusal
fault_refusal fault.OutOfMemory = OutOfMemory
fault_refusal fault.StoreFault = StoreFault

abbrev pub fault_in : TurnFault → Fault
fault_in (Before fault) = fault
fault_in (Committing fault) = fault

abbrev pub turn_refusal : TurnFault → Refusal
turn_refusal turn = fault_refusal (fault_in turn)
