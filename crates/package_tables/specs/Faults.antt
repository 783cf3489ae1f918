-- Which fault of a package an error of the store is.
use Rattle.sqlite.specs.declared.error.Error.{Error}
use Rattle.sqlite.specs.declared.error.Error.TheVariants.{SqliteFailure}
use Rattle.sqlite.specs.declared.error.ErrorCode.TheVariants as code
use Rattle.package_tables.specs.declared.fault.Fault.{Fault}
use Rattle.package_tables.specs.declared.fault.Fault.TheVariants.{OutOfMemory, StoreFault}

abbrev pub fault_of : Error → Fault
fault_of (SqliteFailure code.OutOfMemory) = OutOfMemory
fault_of _ = StoreFault
