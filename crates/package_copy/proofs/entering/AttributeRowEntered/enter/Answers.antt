use Rattle.std.proofs.Common.{rules, to_z-of_z, FitsSigned, w64}
use Rattle.package_tables.specs.Changes.{Adds}
use Rattle.package_tables.specs.Listed.{attributes}
use Rattle.package_tables.proofs.Stepping.{makes_steps}
use Rattle.package_copy.proofs.entering.AttributeRowEntered.enter.Goals as goal

pub returns-clause-steps : goal.returns-clause-steps
returns-clause-steps g c =
    let row = c.args.self.now in
    let id : FitsSigned w64 row.id = search rules in
    let x : FitsSigned w64 row.x = search rules in
    let y : FitsSigned w64 row.y = search rules in
    let code : FitsSigned w64 row.code = search rules in
    makes_steps (Adds attributes row)
    (simp (to_z-of_z, id, x, y, code) at (rw c.as_str.ensures at c.insert_attribute.ensures.wrote))
    c.insert_attribute.ensures.survives
