use Rattle.view_export.proofs.Texts.{joined, ok_is}
use Rattle.view_export.proofs.fixed_rows.geometry_columns.Goals as goal

pub returns : goal.returns
returns c = ok_is c.format.result _ _ (joined c.in_ok-points.ensures c.in_ok-outlines.ensures) c.format.ensures.ok
