use Rattle.std.proofs.Common.{ap}
use Rattle.std.specs.Prelude.{codes}
use Rattle.view_project.specs.Layers.{vector}
use Rattle.view_project.proofs.Texts.{ok_is}
use Rattle.view_project.proofs.layers.outlines.Goals as goal

pub returns : goal.returns
returns c =
    let drawn = ap (λ style. vector (codes "sheet_tile_identity") (codes "Outlines of the sheets") (codes "Polygon")
    style c.args.file.now c.args.system.now) c.outlines_style.ensures in
    ok_is c.vector_layer.result _ _ drawn c.vector_layer.ensures
