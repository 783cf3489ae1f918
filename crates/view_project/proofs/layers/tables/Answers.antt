use Rattle.std.proofs.Common.{◌∙◌, ap}
use Rattle.std.specs.Prelude.{codes}
use Rattle.view_project.specs.Layers.{attributes}
use Rattle.view_project.proofs.Texts.{joined, ok_is}
use Rattle.view_project.proofs.layers.tables.Goals as goal

pub returns : goal.returns
returns c =
    let media = c.in_ok-media.ensures ∙ ap (λ style. attributes (codes "sheet_media")
    (codes "Photographs and other media") style c.args.file.now) c.media_style.ensures in
    ok_is c.format.result _ _ (joined c.in_ok-marks.ensures (joined c.in_ok-outlines.ensures media)) c.format.ensures.ok
