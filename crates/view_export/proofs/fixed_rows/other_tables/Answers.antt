use Rattle.view_export.proofs.Texts.{joined, ok_is}
use Rattle.view_export.proofs.fixed_rows.other_tables.Goals as goal

pub returns : goal.returns
returns c = ok_is c.format.result _ _ (joined c.in_ok-media.ensures
    (joined c.in_ok-tiles_media.ensures (joined c.in_ok-rows_media.ensures
    (joined c.in_ok-rows_tiles.ensures c.in_ok-styles.ensures)))) c.format.ensures.ok
