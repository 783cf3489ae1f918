-- What glances are worth: stores that do not live by them may be left out of an opening. Profile.
use Rattle.std.specs.Prelude.{not, List, map}
use Rattle.std.specs.List.{AllZip}
use Rattle.sqlite.specs.Effect.{Database}
use Rattle.sheet_types.specs.World.{World}
use Rattle.sheet_laws.specs.Laws.{StoreSight, StoresStandFor}
use Rattle.opening_faults.specs.declared.sights.Sight.{Sight}
use Rattle.opening_v1.specs.Either.{IsViewAtEither}
use Rattle.opening_live.specs.Chosen.{flagged, live_flags}
use Rattle.opening_glances.specs.Glances.{IsGlanceOf}

-- the stores that live by these glances, and the others
abbrev pub chosen : List Sight → List Database → List Database
chosen sights dbs = flagged (live_flags sights) dbs

abbrev pub left_out : List Sight → List Database → List Database
left_out sights dbs = flagged (map not (live_flags sights)) dbs

-- Each store was glanced at, rightly. Where right views of those that live by the glances stand for a world, then with
-- whatever right views of the others they are right views of all, which stand for the same world.
abbrev pub LeftOutStand : Type 0
LeftOutStand = (dbs : List Database) (sights : List Sight) (live others : List StoreSight) (w : World) →
    AllZip IsGlanceOf dbs sights →
    AllZip IsViewAtEither (chosen sights dbs) live → AllZip IsViewAtEither (left_out sights dbs) others →
    StoresStandFor live w → (views : List StoreSight) × AllZip IsViewAtEither dbs views × StoresStandFor views w
