-- What is kept of the items of the package is the places of its tiles.
use Rattle.std.proofs.Common.{◌∙◌, refl, to_z-of_z}
use Rattle.sheet_types.specs.World.{holdings}
use Rattle.views.proofs.Gathered.{places_one_by_one}
use Rattle.views.proofs.gathering.holder_of.Goals as goal

pub returns-clause-told : goal.returns-clause-told
returns-clause-told g c = λ clean w stands.
    let held = simp (to_z-of_z, c.ranges.zoom) at (c.in_ok-places.ensures.told clean w stands).0 in
    record {
      uuid = refl;
      depth = refl;
      places = held ∙ places_one_by_one c.args.zoom (holdings w c.args.sight.uuid).items;
    }

pub returns-clause-opens : goal.returns-clause-opens
returns-clause-opens g c = c.in_ok-places.ensures.opens
