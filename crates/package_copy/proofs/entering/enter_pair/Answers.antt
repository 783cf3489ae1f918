use Rattle.std.proofs.Common.{rules, to_z-of_z, FitsSigned, w64}
use Rattle.package_tables.specs.Changes.{Adds}
use Rattle.package_tables.specs.Listed.{pairs}
use Rattle.package_tables.proofs.Stepping.{makes_steps}
use Rattle.package_copy.proofs.entering.enter_pair.Goals as goal

pub returns-clause-steps : goal.returns-clause-steps
returns-clause-steps g c =
    let row = c.args.row.now in
    let base_id : FitsSigned w64 row.base_id = search rules in
    let related_id : FitsSigned w64 row.related_id = search rules in
    makes_steps (Adds (pairs c.args.mapping) row)
    (simp (to_z-of_z, base_id, related_id) at c.insert_pair.ensures.wrote) c.insert_pair.ensures.survives
