use Rattle.std.proofs.Common.{rules, to_z-of_z, FitsSigned, w64}
use Rattle.package_tables.specs.Changes.{Adds}
use Rattle.package_tables.specs.Listed.{media}
use Rattle.package_tables.proofs.Stepping.{makes_steps}
use Rattle.package_copy.proofs.entering.MediaRowEntered.enter.Goals as goal

pub returns-clause-steps : goal.returns-clause-steps
returns-clause-steps g c =
    let row = c.args.self.now in
    let id : FitsSigned w64 row.id = search rules in
    makes_steps (Adds media row)
    (simp (to_z-of_z, id) at (rw (c.as_slice.ensures, c.as_str.ensures) at c.insert_medium.ensures.wrote))
    c.insert_medium.ensures.survives
