use Rattle.store_sql.proofs.Both.{two, four}
use Rattle.package_schema.proofs.placing.has_first_tables.Goals as goal

pub returns : goal.returns
returns c = two _ _ (four _ _ _ _ c.is_quiet-quiet.ensures c.are_named_placed-named.ensures
    c.are_first_users_placed-users.ensures c.are_own_placed-own.ensures) c.are_free-free.ensures
