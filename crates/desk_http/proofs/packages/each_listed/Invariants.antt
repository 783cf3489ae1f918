-- The packages so far.
use Rattle.std.proofs.Common.{◌≡◌, map, take}
use Rattle.sheet_types.specs.World.{World}
use Rattle.world.specs.Reading.{sight_of}
use Rattle.world.specs.Worlds.{StandsFor}
use Rattle.desk_http.specs.Listing.{listed_in}
use Rattle.desk_http.proofs.packages.each_listed.Given as goal

abbrev pub invariant-sights : goal.invariant-sights
invariant-sights g l =
    record {
      listed : (w : World) → StandsFor g.S.Store l.world w
          → l.list.items ≡ map (listed_in w) (map sight_of (take l.sight-index l.sights));
    }
