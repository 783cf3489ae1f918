use Rattle.std.proofs.Common.{◌≡◌, FitsSigned, refl, rules, to_z-of_z, w64}
use Rattle.std.specs.Fmt.{signed_decimal}
use Rattle.std.specs.Prelude.{string_bytes}
use Rattle.view_export.specs.FixedRows.{pair}
use Rattle.view_export.specs.Statements.{thousandths}
use Rattle.view_export.proofs.Texts.{ok_is}
use Rattle.view_export.proofs.matrices.matrix_row.Goals as goal

pub returns : goal.returns
returns c =
    let a = c.args.axes.now in
    let f = c.args.frame.now in
    let columns : FitsSigned w64 a.across.tiles = search rules in
    let rows : FitsSigned w64 a.down.tiles = search rules in
    let width : FitsSigned w64 f.tile_width = search rules in
    let height : FitsSigned w64 f.tile_height = search rules in
    let across : FitsSigned w64 a.across.pixel_size = search rules in
    let down : FitsSigned w64 a.down.pixel_size = search rules in
    let tiles : string_bytes c.in_ok-tiles.tiles ≡ pair (signed_decimal a.across.tiles)
    (signed_decimal a.down.tiles) = simp (to_z-of_z, columns, rows) at c.in_ok-tiles.ensures in
    let size : string_bytes c.in_ok-size.size ≡ pair (signed_decimal f.tile_width) (signed_decimal f.tile_height) =
    simp (to_z-of_z, width, height) at c.in_ok-size.ensures in
    let pixel : string_bytes c.in_ok-pixel.pixel ≡ pair (thousandths a.across.pixel_size)
    (thousandths a.down.pixel_size) = simp (to_z-of_z, across, down) at c.in_ok-pixel.ensures in
    ok_is c.format.result _ _ (simp (to_z-of_z, c.ranges.zoom) (rw (tiles, size, pixel) refl)) c.format.ensures.ok
