use Rattle.std.proofs.Common.{◌∙◌}
use Rattle.std.proofs.lemmas.Int.{to_z-of_z}
use Rattle.matrix_rules.proofs.Frames.{good_frame}
use Rattle.command_boxes.proofs.Covers.{zoom_is}
use Rattle.command_boxes.proofs.covering.has_zoom.Goals as goal

pub returns : goal.returns
returns c =
    let zoom = c.ranges.zoom in
    simp to_z-of_z at c.has_place.ensures ∙ zoom_is c.args.frame.now c.args.zoom
    (good_frame c.args.frame.now c.requires)
