use Rattle.std.proofs.Common.{refl, rules, FitsSigned, w64, to_z-of_z}
use Rattle.package_schema.proofs.Agreeing.{same_number}
use Rattle.package_schema.proofs.frame_rows.is_level.Goals as goal

pub returns : goal.returns
returns c =
    let row_zoom : FitsSigned w64 c.args.row.now.zoom_level = search rules in
    let zoom = c.ranges.zoom in
    let row_width : FitsSigned w64 c.args.row.now.matrix_width = search rules in
    let width : FitsSigned w64 c.axes_at-axes.result.across.tiles = search rules in
    let row_height : FitsSigned w64 c.args.row.now.matrix_height = search rules in
    let height : FitsSigned w64 c.axes_at-axes.result.down.tiles = search rules in
    let row_tile_width : FitsSigned w64 c.args.row.now.tile_width = search rules in
    let tile_width : FitsSigned w64 c.args.frame.now.tile_width = search rules in
    let row_tile_height : FitsSigned w64 c.args.row.now.tile_height = search rules in
    let tile_height : FitsSigned w64 c.args.frame.now.tile_height = search rules in
    let row_across : FitsSigned w64 c.args.row.now.pixel_x_size = search rules in
    let across : FitsSigned w64 c.axes_at-axes.result.across.pixel_size = search rules in
    let row_down : FitsSigned w64 c.args.row.now.pixel_y_size = search rules in
    let down : FitsSigned w64 c.axes_at-axes.result.down.pixel_size = search rules in
    let axes = simp (to_z-of_z, zoom) at c.axes_at-axes.ensures.axes in
    rw (
      c.is_text.ensures,
      same_number c.args.row.now.zoom_level c.args.zoom row_zoom zoom,
      same_number
          c.args.row.now.matrix_width c.axes_at-axes.result.across.tiles row_width width,
      same_number
          c.args.row.now.matrix_height c.axes_at-axes.result.down.tiles row_height height,
      same_number
          c.args.row.now.tile_width c.args.frame.now.tile_width row_tile_width tile_width,
      same_number
          c.args.row.now.tile_height c.args.frame.now.tile_height row_tile_height tile_height,
      same_number
          c.args.row.now.pixel_x_size c.axes_at-axes.result.across.pixel_size row_across across,
      same_number
          c.args.row.now.pixel_y_size c.axes_at-axes.result.down.pixel_size row_down down,
      axes,
    ) refl
