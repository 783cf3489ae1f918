use Rattle.std.proofs.Common.{to_z-of_z}
use Rattle.package_tables.specs.Listed.{relations}
use Rattle.package_tables.specs.Changes.{Adds}
use Rattle.package_tables.specs.Fixed.{relation}
use Rattle.package_tables.proofs.Stepping.{makes_steps}
use Rattle.package_creation.proofs.fixed_rows.insert_mapping.Goals as goal

pub returns-clause-steps : goal.returns-clause-steps
returns-clause-steps g c =
    let a = c.args in
    makes_steps (Adds relations (relation a.id a.base.now a.related.now a.name.now a.mapping.now))
    (simp (to_z-of_z, c.ranges.id) at c.insert_relation.ensures.wrote) c.insert_relation.ensures.survives
