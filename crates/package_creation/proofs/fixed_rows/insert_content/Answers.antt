use Rattle.std.proofs.Common.{rules, to_z-of_z, FitsSigned, w64}
use Rattle.package_tables.specs.Listed.{contents}
use Rattle.package_tables.specs.Changes.{Adds}
use Rattle.package_tables.specs.Fixed.{content}
use Rattle.package_tables.proofs.Stepping.{makes_steps}
use Rattle.package_creation.proofs.fixed_rows.insert_content.Goals as goal

pub returns-clause-steps : goal.returns-clause-steps
returns-clause-steps g c =
    let a = c.args in
    let srs_id : FitsSigned w64 a.frame.now.srs_id = search rules in
    let min_x : FitsSigned w64 a.frame.now.min_x = search rules in
    let min_y : FitsSigned w64 a.frame.now.min_y = search rules in
    let max_x : FitsSigned w64 a.frame.now.max_x = search rules in
    let max_y : FitsSigned w64 a.frame.now.max_y = search rules in
    makes_steps (Adds contents (content a.table_name.now a.data_type.now a.frame.now a.at.now))
    (simp (to_z-of_z, srs_id, min_x, min_y, max_x, max_y) at c.insert_contents.ensures.wrote)
    c.insert_contents.ensures.survives
