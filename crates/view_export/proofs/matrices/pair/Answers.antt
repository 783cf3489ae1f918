use Rattle.std.proofs.Common.{refl, to_z-of_z}
use Rattle.view_export.proofs.Texts.{ok_is}
use Rattle.view_export.proofs.matrices.pair.Goals as goal

pub returns : goal.returns
returns c = ok_is c.format.result _ _ (simp (to_z-of_z, c.ranges.first, c.ranges.second) refl) c.format.ensures.ok
