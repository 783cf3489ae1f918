use Rattle.std.proofs.Common.{refl, to_z-of_z}
use Rattle.view_export.proofs.Texts.{ok_is}
use Rattle.view_export.proofs.lines.feature_row.Goals as goal

pub returns : goal.returns
returns c = ok_is c.format.result _ _ (simp (to_z-of_z, c.ranges.code) (rw c.in_ok-name.ensures refl))
    c.format.ensures.ok
