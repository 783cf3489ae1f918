use Rattle.store_sql.proofs.Both.{four}
use Rattle.package_schema.proofs.placing.has_all_tables.Goals as goal

pub returns : goal.returns
returns c = four _ _ _ _ c.is_quiet-quiet.ensures c.are_named_placed-named.ensures c.are_users_placed-users.ensures
    c.are_own_placed-own.ensures
