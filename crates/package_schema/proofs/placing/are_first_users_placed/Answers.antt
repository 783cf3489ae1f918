use Rattle.store_sql.proofs.Both.{five}
use Rattle.package_schema.proofs.placing.are_first_users_placed.Goals as goal

pub returns : goal.returns
returns c = five _ _ _ _ _ c.has_table-tiles.ensures c.has_table-media.ensures c.has_table-rows.ensures
    c.has_table-tiles_media.ensures c.has_table-rows_media.ensures
