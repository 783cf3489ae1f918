use Rattle.std.proofs.Common.{◌∙◌, refl}
use Rattle.view_export.proofs.lines.link_row.Goals as goal

pub returns : goal.returns
returns c = λ items are. c.in_ok-format.ensures.ok ∙ (rw (
  c.number_of-base.ensures items are,
  c.number_of-other.ensures items are,
) refl)
