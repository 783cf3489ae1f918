use Rattle.store_sql.proofs.Both.{five}
use Rattle.package_schema.proofs.placing.are_named_placed.Goals as goal

pub returns : goal.returns
returns c = five _ _ _ _ _ c.has_table-systems.ensures c.has_table-contents.ensures c.has_table-sets.ensures
    c.has_table-levels.ensures c.has_table-relations.ensures
