use Rattle.store_sql.proofs.Both.{four}
use Rattle.package_schema.proofs.placing.are_own_placed.Goals as goal

pub returns : goal.returns
returns c = four _ _ _ _ c.has_table-heads.ensures c.has_table-identities.ensures c.has_table-receipts.ensures
    c.has_table-moved.ensures
