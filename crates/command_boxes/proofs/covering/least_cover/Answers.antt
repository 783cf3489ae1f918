use Rattle.std.proofs.Common.{rules, FitsSigned, w64}
use Rattle.std.proofs.lemmas.Int.{to_z-of_z}
use Rattle.matrix_rules.proofs.Frames.{good_frame}
use Rattle.command_boxes.proofs.Covers.{box_fits, box_of, least_of, stretch_across, stretch_down}
use Rattle.command_boxes.proofs.covering.least_cover.Goals as goal

pub overflow_sub-ground : goal.overflow_sub-ground
overflow_sub-ground c =
    let good = good_frame c.args.frame.now c.requires.good in
    let box = box_of c.args.frame.now c.args.ground.now c.requires.ground in
    let fit = box_fits c.args.frame.now c.args.ground.now good box in
    simp (to_z-of_z, fit.west, fit.min_x) fit.from_west

pub overflow_sub-ground-2 : goal.overflow_sub-ground-2
overflow_sub-ground-2 c =
    let good = good_frame c.args.frame.now c.requires.good in
    let box = box_of c.args.frame.now c.args.ground.now c.requires.ground in
    let fit = box_fits c.args.frame.now c.args.ground.now good box in
    simp (to_z-of_z, fit.east, fit.min_x) fit.to_east

pub overflow_sub-frame : goal.overflow_sub-frame
overflow_sub-frame c =
    let good = good_frame c.args.frame.now c.requires.good in
    let box = box_of c.args.frame.now c.args.ground.now c.requires.ground in
    let fit = box_fits c.args.frame.now c.args.ground.now good box in
    simp (to_z-of_z, fit.max_y, fit.north) fit.from_north

pub overflow_sub-frame-2 : goal.overflow_sub-frame-2
overflow_sub-frame-2 c =
    let good = good_frame c.args.frame.now c.requires.good in
    let box = box_of c.args.frame.now c.args.ground.now c.requires.ground in
    let fit = box_fits c.args.frame.now c.args.ground.now good box in
    simp (to_z-of_z, fit.max_y, fit.south) fit.to_south

pub tiles_over-column-requires-clause-stretch : goal.tiles_over-column-requires-clause-stretch
tiles_over-column-requires-clause-stretch c =
    let zoom = c.ranges.zoom in
    let good = good_frame c.args.frame.now c.requires.good in
    let box = box_of c.args.frame.now c.args.ground.now c.requires.ground in
    let fit = box_fits c.args.frame.now c.args.ground.now good box in
    let axes = simp to_z-of_z at c.axes_at.ensures.axes in
    simp (to_z-of_z, fit.west, fit.east, fit.min_x, fit.from_west, fit.to_east)
    (rw axes (stretch_across c.args.frame.now c.args.zoom c.args.ground.now good c.requires.level box))

pub tiles_over-row-requires-clause-stretch : goal.tiles_over-row-requires-clause-stretch
tiles_over-row-requires-clause-stretch c =
    let zoom = c.ranges.zoom in
    let good = good_frame c.args.frame.now c.requires.good in
    let box = box_of c.args.frame.now c.args.ground.now c.requires.ground in
    let fit = box_fits c.args.frame.now c.args.ground.now good box in
    let axes = simp to_z-of_z at c.axes_at.ensures.axes in
    simp (to_z-of_z, fit.max_y, fit.north, fit.south, fit.from_north, fit.to_south)
    (rw axes (stretch_down c.args.frame.now c.args.zoom c.args.ground.now good c.requires.level box))

pub returns : goal.returns
returns c =
    let zoom = c.ranges.zoom in
    let good = good_frame c.args.frame.now c.requires.good in
    let box = box_of c.args.frame.now c.args.ground.now c.requires.ground in
    let fit = box_fits c.args.frame.now c.args.ground.now good box in
    let axes = simp to_z-of_z at c.axes_at.ensures.axes in
    let column : FitsSigned w64 c.tiles_over-column.result.0 = search rules in
    let last_column : FitsSigned w64 c.tiles_over-column.result.1 = search rules in
    let row : FitsSigned w64 c.tiles_over-row.result.0 = search rules in
    let last_row : FitsSigned w64 c.tiles_over-row.result.1 = search rules in
    let across = rw axes at (simp (to_z-of_z, fit.west, fit.east, fit.min_x, fit.from_west, fit.to_east) at
    c.tiles_over-column.ensures) in
    let down = rw axes at (simp (to_z-of_z, fit.max_y, fit.north, fit.south, fit.from_north, fit.to_south) at
    c.tiles_over-row.ensures) in
    simp to_z-of_z (least_of c.args.frame.now c.args.ground.now
    (record {
      zoom = c.args.zoom;
      column = c.tiles_over-column.result.0;
      last_column = c.tiles_over-column.result.1;
      row = c.tiles_over-row.result.0;
      last_row = c.tiles_over-row.result.1;
    })
    good c.requires.level (record { across = across; down = down }))
