-- The five tables of the first version, and one more.
use Rattle.store_sql.proofs.Both.{two}
use Rattle.package_schema.proofs.placing.are_users_placed.Goals as goal

pub returns : goal.returns
returns c =
    let both = two _ _ c.are_first_users_placed-first.ensures c.has_table-rows_tiles.ensures in (
      λ yes. let h = both.0 yes in (h.0.0, h.0.1, h.0.2, h.0.3, h.0.4, h.1),
      λ are. both.1 ((are.0, are.1, are.2, are.3, are.4), are.5),
    )
