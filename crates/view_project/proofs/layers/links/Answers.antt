use Rattle.std.proofs.Common.{◌∙◌, ap}
use Rattle.std.specs.Prelude.{codes}
use Rattle.view_project.specs.Layers.{attributes}
use Rattle.view_project.proofs.Texts.{joined, ok_is}
use Rattle.view_project.proofs.layers.links.Goals as goal

pub returns : goal.returns
returns c =
    let file = c.args.file.now in
    let of_marks = c.in_ok-of_marks.ensures ∙ ap (λ style. attributes (codes "rows_media") (codes "Media of marks")
    style file) c.media_of_marks_style.ensures in
    let of_sheets = c.in_ok-of_sheets.ensures ∙ ap (λ style. attributes (codes "tiles_media")
    (codes "Media of sheets") style file) c.media_of_sheets_style.ensures in
    let marks = c.in_ok-marks.ensures ∙ ap (λ style. attributes (codes "rows_tiles") (codes "Marks of sheets") style
    file) c.marks_of_sheets_style.ensures in
    ok_is c.format.result _ _ (joined of_marks (joined of_sheets marks)) c.format.ensures.ok
