-- What is told of each package is the list of the world's packages.
use Rattle.std.proofs.Common.{◌∙◌, ap, map}
use Rattle.world.specs.Reading.{sight_of}
use Rattle.desk_http.proofs.ListingFacts.{all_told}
use Rattle.desk_http.proofs.packages.all_listed.Goals as goal

pub returns : goal.returns
returns g c = λ w stands.
    c.in_ok-list.ensures w stands ∙ all_told w (map sight_of c.as_slice.result.now) stands.members.register.arranged
    (ap (map sight_of) c.as_slice.ensures.value ∙ c.in-Ok.ensures w stands)
