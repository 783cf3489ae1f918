-- The row is one of the axis, whose tiles are the rows of the zoom.
use Rattle.std.proofs.Common.{◌∙◌, ap, rules, sym, FitsSigned, w64}
use Rattle.std.proofs.lemmas.Int.{to_z-of_z}
use Rattle.matrix_rules.specs.declared.axis.Axes.{Axes}
use Rattle.command_plans.proofs.Placed.{on_axis, placed}
use Rattle.command_plans.proofs.places.turned_row.Goals as goal

pub axes_at-requires-clause-level : goal.axes_at-requires-clause-level
axes_at-requires-clause-level c =
    let zoom = c.ranges.zoom in
    let row = c.ranges.row in
    let has = simp to_z-of_z at c.has_place.ensures in
    simp to_z-of_z (placed c.args.frame.now c.args.zoom c.args.row (sym has ∙ c.if-not-has_place.false)).level

pub mirror_row-requires : goal.mirror_row-requires
mirror_row-requires c =
    let zoom = c.ranges.zoom in
    let row = c.ranges.row in
    let rows : FitsSigned w64 c.axes_at.result.down.tiles = search rules in
    let has = simp to_z-of_z at c.has_place.ensures in
    let place = placed c.args.frame.now c.args.zoom c.args.row (sym has ∙ c.if-not-has_place.false) in
    let axes = simp to_z-of_z at c.axes_at.ensures.axes in
    simp to_z-of_z (on_axis c.args.frame.now c.args.zoom c.args.row c.axes_at.result.down.tiles place
    (ap (λ (a : Axes). a.down.tiles) axes) c.axes_at.ensures.good.1.tiles)

pub returns-clause-some : goal.returns-clause-some
returns-clause-some c =
    let zoom = c.ranges.zoom in
    let row = c.ranges.row in
    let rows : FitsSigned w64 c.axes_at.result.down.tiles = search rules in
    let other : FitsSigned w64 c.mirror_row.result = search rules in
    let axes = simp to_z-of_z at c.axes_at.ensures.axes in
    let turned = simp to_z-of_z at c.mirror_row.ensures in
    simp to_z-of_z (turned ∙ ap (λ (a : Axes). a.down.tiles) axes)

pub returns-clause-within : goal.returns-clause-within
returns-clause-within c =
    let zoom = c.ranges.zoom in
    let row = c.ranges.row in
    let has = simp to_z-of_z at c.has_place.ensures in
    sym has ∙ c.if-not-has_place.false
