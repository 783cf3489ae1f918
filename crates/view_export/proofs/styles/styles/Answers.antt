use Rattle.view_export.proofs.Texts.{joined, ok_is}
use Rattle.view_export.proofs.styles.styles.Goals as goal

pub returns : goal.returns
returns c = ok_is c.format.result _ _ (joined c.rows_style_row-rows.ensures
    (joined c.outlines_style_row-outlines.ensures c.media_style_row-media.ensures)) c.format.ensures.ok
