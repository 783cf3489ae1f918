-- Why a transfer is refused.
use Rattle.std.specs.Prelude.{◌≡◌, ◌⊎◌}
use Rattle.package_tables.specs.declared.fault.Fault.{Fault}
use Rattle.package_tables.specs.declared.fault.Fault.TheVariants.{OutOfMemory as NoMemory, StoreFault as NoStore}
use Rattle.sheet_types.specs.declared.refusal.Refusal.{Refusal}
use Rattle.sheet_types.specs.declared.refusal.Refusal.TheVariants.{TooMany, OutOfMemory, StoreFault}

abbrev pub refusal_of : Fault → Refusal
refusal_of NoMemory = OutOfMemory
refusal_of NoStore = StoreFault

-- want of memory, or a store that failed
abbrev pub IsFault : Refusal → Type 0
IsFault why = (why ≡ OutOfMemory) ⊎ (why ≡ StoreFault)

-- or no more room for items of a kind
abbrev pub IsReason : Refusal → Type 0
IsReason why = (why ≡ TooMany) ⊎ ((why ≡ OutOfMemory) ⊎ (why ≡ StoreFault))
