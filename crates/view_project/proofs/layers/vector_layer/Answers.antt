use Rattle.view_project.proofs.Texts.{joined, ok_is}
use Rattle.view_project.proofs.layers.vector_layer.Goals as goal

pub returns : goal.returns
returns c = ok_is c.format.result _ _ (joined c.in_ok-source.ensures c.in_ok-drawing.ensures) c.format.ensures.ok
