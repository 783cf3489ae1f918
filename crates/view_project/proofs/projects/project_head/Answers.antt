use Rattle.view_project.proofs.Texts.{joined, ok_is}
use Rattle.view_project.proofs.projects.project_head.Goals as goal

pub returns : goal.returns
returns c = ok_is c.format.result _ _ (joined c.beginning-beginning.ensures
    (joined c.in_ok-own.ensures (joined c.tree-tree.ensures (joined c.in_ok-canvas.ensures
    c.opening-opening.ensures)))) c.format.ensures.ok
