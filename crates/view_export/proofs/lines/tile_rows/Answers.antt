use Rattle.std.proofs.Common.{◌≡◌, ◌∙◌, ap, to_z-of_z}
use Rattle.std.specs.Prelude.{string_bytes}
use Rattle.view_export.specs.Exports.{tile_identity_row, tile_outline, tile_row}
use Rattle.view_export.proofs.Texts.{joined, ok_is}
use Rattle.view_export.proofs.lines.tile_rows.Goals as goal

pub returns : goal.returns
returns c =
    let f = c.args.frame.now in
    let n = c.args.number in
    let id = c.args.identity in
    let zoom = c.args.zoom in
    let column = c.args.column in
    let row = c.args.row in
    let tile : string_bytes c.in_ok-tile.tile ≡ tile_row n zoom column row c.args.bytes.now =
    simp (to_z-of_z, c.ranges.zoom, c.ranges.column, c.ranges.row) at c.in_ok-tile.ensures in
    let edge : c.as_str.result.now ≡ tile_outline f zoom column row =
    c.as_str.ensures.value ∙ (simp (to_z-of_z, c.ranges.zoom, c.ranges.column, c.ranges.row) at
    c.in_ok-outline.ensures) in
    let named : string_bytes c.in_ok-named.named ≡ tile_identity_row n c.as_str.result.now id zoom column row =
    simp (to_z-of_z, c.ranges.zoom, c.ranges.column, c.ranges.row) at c.in_ok-named.ensures in
    ok_is c.format.result _ _ (joined tile (named ∙ ap (λ g. tile_identity_row n g id zoom column row) edge))
    c.format.ensures.ok
