use Rattle.view_export.proofs.Texts.{joined, ok_is}
use Rattle.view_export.proofs.schema.schema.Goals as goal

pub returns : goal.returns
returns c = ok_is c.format.result _ _ (joined c.in_ok-standard.ensures
    (joined c.in_ok-sheets.ensures (joined c.export_table-export.ensures c.styles_table-styles.ensures)))
    c.format.ensures.ok
