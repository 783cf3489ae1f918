-- A world that is no register, computed.
use Rattle.std.specs.Prelude.{refl}
use Rattle.sheet_kept_laws.specs.Laws.{DoubledLosesReceipt}

pub doubled_loses_receipt : DoubledLosesReceipt
doubled_loses_receipt frame = (refl, refl, refl, refl)
