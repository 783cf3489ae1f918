-- The geometry is that of the row's own point, and the label its own.
use Rattle.std.proofs.Common.{◌≡◌, ◌∙◌, FitsSigned, ap, rules, sym, to_z-of_z, w64}
use Rattle.std.specs.Prelude.{string_bytes}
use Rattle.view_export.specs.Exports.{content_rows, feature_row, tile_rows}
use Rattle.view_export.specs.Points.{point}
use Rattle.view_export.specs.Statements.{blob}
use Rattle.view_export.proofs.Systems.{fits_header, fits_word}
use Rattle.view_export.proofs.Texts.{ok_is}
use Rattle.view_export.proofs.lines.write_item.Goals as goal

pub geometry-requires : goal.geometry-requires
geometry-requires c = simp (to_z-of_z, fits_word c.args.frame.now c.requires) (fits_header c.args.frame.now c.requires)

pub returns-in_ok-geometry-in-Row : goal.returns-in_ok-geometry-in-Row
returns-in_ok-geometry-in-Row c =
    let f = c.args.frame.now in
    let n = c.args.number in
    let id = c.args.item.now.identity in
    let x : FitsSigned w64 c.in-Row.x = search rules in
    let y : FitsSigned w64 c.in-Row.y = search rules in
    let code : FitsSigned w64 c.in-Row.code = search rules in
    let drawn : string_bytes c.in_ok-geometry-in-Row.geometry ≡ blob (point f.srs_id c.in-Row.x c.in-Row.y) =
    simp (to_z-of_z, fits_word f c.requires, x, y) at c.in_ok-geometry-in-Row.ensures in
    let same = ap (λ g. feature_row n id g c.in-Row.code c.as_str-in-Row-2.result.now)
    (c.as_str-in-Row.ensures.value ∙ drawn)
    ∙ ap (λ l. feature_row n id (blob (point f.srs_id c.in-Row.x c.in-Row.y)) c.in-Row.code l)
    c.as_str-in-Row-2.ensures
    ∙ sym (ap (content_rows f n id) c.in-Row.is) in
    ok_is c.feature_row.result _ _ same (simp (to_z-of_z, code) at c.feature_row.ensures)

pub returns-in-Tile : goal.returns-in-Tile
returns-in-Tile c =
    let f = c.args.frame.now in
    let n = c.args.number in
    let id = c.args.item.now.identity in
    let zoom : FitsSigned w64 c.in-Tile.zoom = search rules in
    let column : FitsSigned w64 c.in-Tile.column = search rules in
    let row : FitsSigned w64 c.in-Tile.row = search rules in
    let same = ap (λ b. tile_rows f n id c.in-Tile.zoom c.in-Tile.column c.in-Tile.row b) c.as_slice.ensures
    ∙ sym (ap (content_rows f n id) c.in-Tile.is) in
    ok_is c.tile_rows.result _ _ same (simp (to_z-of_z, zoom, column, row) at c.tile_rows.ensures)
