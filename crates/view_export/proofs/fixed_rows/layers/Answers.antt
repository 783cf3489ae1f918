use Rattle.std.proofs.Common.{◌≡◌, ◌∙◌, ap}
use Rattle.std.specs.Prelude.{codes}
use Rattle.view_export.specs.FixedRows.{bounds, contents_row}
use Rattle.view_export.proofs.Texts.{joined, ok_is}
use Rattle.view_export.proofs.fixed_rows.layers.Goals as goal

pub returns : goal.returns
returns c =
    let p = c.args.«package» in
    let ends : c.as_str-ends.result.now ≡ bounds c.args.frame.now =
    c.as_str-ends.ensures.value ∙ c.in_ok-ends.ensures in
    let tiles = c.in_ok-tiles.ensures ∙ ap (contents_row (codes "'sheet_tiles'") (codes "'tiles'") p) ends in
    let rows = c.in_ok-rows.ensures ∙ ap (contents_row (codes "'sheet_rows'") (codes "'features'") p) ends in
    let outlines = c.in_ok-outlines.ensures ∙ ap (contents_row (codes "'sheet_tile_identity'") (codes "'features'") p)
    ends in
    ok_is c.format.result _ _ (joined tiles (joined rows outlines)) c.format.ensures.ok
