use Rattle.std.proofs.Common.{to_z-of_z}
use Rattle.renumbering.proofs.Rising.{among_is, searched}
use Rattle.renumbering.proofs.free.is_among.Goals as goal

pub returns : goal.returns
returns c = among_is _ _ _ _ _ (to_z-of_z c.ranges.key) c.is_ok.ensures.value
    (searched _ _ _ c.requires c.binary_search.ensures.bound c.binary_search.ensures.position)
