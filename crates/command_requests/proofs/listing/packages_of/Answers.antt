-- The entries of the packages that the world listed.
use Rattle.std.proofs.Common.{◌∙◌, ap, map}
use Rattle.world.specs.Reading.{sight_of}
use Rattle.world.specs.Worlds.{StandsFor}
use Rattle.command_requests.proofs.Asked.{packages_listed}
use Rattle.command_requests.proofs.listing.packages_of.Goals as goal

pub returns : goal.returns
returns g c =
    packages_listed (StandsFor g.S.Store c.args.world.now) (λ v. v.items) c.as_slice.result.now c.entries_of.result
    (λ w stands. ap (map sight_of) c.as_slice.ensures.value ∙ c.in_ok-sights.ensures w stands) c.entries_of.ensures
