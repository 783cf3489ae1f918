use Rattle.view_export.proofs.Texts.{joined, ok_is}
use Rattle.view_export.proofs.schema.sheet_tables.Goals as goal

pub returns : goal.returns
returns c = ok_is c.format.result _ _ (joined c.tiles_table-tiles.ensures
    (joined c.tile_identity_table-identities.ensures (joined c.media_table-media.ensures
    (joined c.rows_table-rows.ensures (joined c.in_ok-tiles_media.ensures
    (joined c.in_ok-rows_media.ensures c.in_ok-rows_tiles.ensures)))))) c.format.ensures.ok
