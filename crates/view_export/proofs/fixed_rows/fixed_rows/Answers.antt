use Rattle.view_export.proofs.Texts.{joined, ok_is}
use Rattle.view_export.proofs.fixed_rows.fixed_rows.Goals as goal

pub returns : goal.returns
returns c = ok_is c.format.result _ _ (joined c.in_ok-systems.ensures
    (joined c.in_ok-contents.ensures (joined c.in_ok-columns.ensures
    (joined c.in_ok-set.ensures (joined c.in_ok-matrices.ensures
    (joined c.extensions-extensions.ensures c.relations-relations.ensures)))))) c.format.ensures.ok
