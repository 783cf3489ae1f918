use Rattle.std.proofs.Common.{refl, to_z-of_z}
use Rattle.view_project.proofs.Texts.{ok_is}
use Rattle.view_project.proofs.projects.side.Goals as goal

pub returns : goal.returns
returns c = ok_is c.format.result _ _ (simp (to_z-of_z, c.ranges.bound) refl) c.format.ensures.ok
