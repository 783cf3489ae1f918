use Rattle.std.proofs.Common.{refl}
use Rattle.view_export.proofs.Texts.{ok_is}
use Rattle.view_export.proofs.lines.medium_row.Goals as goal

pub returns : goal.returns
returns c = ok_is c.format.result _ _ (rw (c.in_ok-medium.ensures, c.in_ok-kind.ensures) refl) c.format.ensures.ok
