use Rattle.std.proofs.Common.{refl}
use Rattle.std.proofs.lemmas.Int.{to_z-of_z}
use Rattle.view_report.proofs.levels.level_of.Goals as goal

pub returns : goal.returns
returns c = rw (c.layout_of.ensures.layout, c.saturating_sub.ensures, c.plus.ensures)
    (simp (to_z-of_z, c.ranges.zoom) refl)
