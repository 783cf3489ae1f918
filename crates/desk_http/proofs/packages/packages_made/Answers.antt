-- The list is that of the world.
use Rattle.std.proofs.Common.{◌∙◌}
use Rattle.desk_http.proofs.packages.packages_made.Goals as goal

pub returns : goal.returns
returns g c = λ w stands. c.in_ok-bytes.ensures.told w (c.as_slice.ensures.value ∙ c.in_ok-list.ensures w stands)
