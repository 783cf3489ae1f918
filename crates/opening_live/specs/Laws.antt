-- Laws of views of stores of which those that do not live are left out. Profile.
use Rattle.std.specs.Prelude.{◌↔◌, List}
use Rattle.sheet_types.specs.World.{World}
use Rattle.sheet_laws.specs.Laws.{StoreSight, StoresStandFor}
use Rattle.opening_faults.specs.declared.faults.RecoverFault.{RecoverFault}
use Rattle.opening_verdict.specs.Views.{IsFaultOf, live_views}

-- Views that live stand for a world exactly where all do.
abbrev pub LiveOnesStand : Type 0
LiveOnesStand = (views : List StoreSight) (w : World) → StoresStandFor (live_views views) w ↔ StoresStandFor views w

-- A fault is the first of the nine that holds of views that live exactly where it is that of all, with the same package
-- or identity.
abbrev pub LiveOnesFault : Type 0
LiveOnesFault = (views : List StoreSight) (fault : RecoverFault)
    → IsFaultOf (live_views views) fault ↔ IsFaultOf views fault
