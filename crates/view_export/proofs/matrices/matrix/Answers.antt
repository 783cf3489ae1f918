use Rattle.std.proofs.Common.{◌≡◌, ap, to_z-of_z}
use Rattle.matrix_rules.specs.Axes.{axes}
use Rattle.view_export.specs.FixedRows.{matrix_row}
use Rattle.view_export.proofs.Texts.{ok_is}
use Rattle.view_export.proofs.matrices.matrix.Goals as goal

pub returns : goal.returns
returns c =
    let f = c.args.frame.now in
    let at : c.axes_at-axes.result ≡ axes f c.args.zoom = simp (to_z-of_z, c.ranges.zoom) at
    c.axes_at-axes.ensures.axes in
    ok_is c.matrix_row.result _ _ (ap (matrix_row f c.args.zoom) at)
    (simp (to_z-of_z, c.ranges.zoom) at c.matrix_row.ensures)
