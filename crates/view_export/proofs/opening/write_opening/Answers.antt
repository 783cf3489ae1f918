use Rattle.view_export.proofs.Texts.{joined, ok_is}
use Rattle.view_export.proofs.opening.write_opening.Goals as goal

pub returns : goal.returns
returns c = ok_is c.format.result _ _ (joined c.beginning-beginning.ensures
    (joined c.in_ok-schema.ensures (joined c.in_ok-rows.ensures
    (joined c.in_ok-styles.ensures c.in_ok-export.ensures)))) c.format.ensures.ok
