use Rattle.std.proofs.Common.{◌∙◌, sym}
use Rattle.std.proofs.lemmas.Bool.{and_from}
use Rattle.std.proofs.lemmas.Int.{to_z-of_z}
use Rattle.command_boxes.proofs.covering.covering.Goals as goal

pub returns-clause-some : goal.returns-clause-some
returns-clause-some c = let zoom = c.ranges.zoom in simp to_z-of_z at c.least_cover.ensures

pub returns-clause-covered : goal.returns-clause-covered
returns-clause-covered c =
    let zoom = c.ranges.zoom in
    let level = simp to_z-of_z at c.has_zoom.ensures in
    and_from _ _ (sym level ∙ c.if-not-has_zoom.false) (sym c.has_box.ensures ∙ c.if-not-has_box.false)
