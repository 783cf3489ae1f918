use Rattle.view_project.proofs.Texts.{joined, ok_is}
use Rattle.view_project.proofs.layers.layers.Goals as goal

pub returns : goal.returns
returns c = ok_is c.format.result _ _ (joined c.in_ok-tables.ensures
    (joined c.in_ok-links.ensures c.in_ok-sheets.ensures)) c.format.ensures.ok
