use Rattle.view_export.proofs.Texts.{joined, ok_is}
use Rattle.view_export.proofs.fixed_rows.contents.Goals as goal

pub returns : goal.returns
returns c = ok_is c.format.result _ _ (joined c.in_ok-layers.ensures c.in_ok-others.ensures) c.format.ensures.ok
