-- The ground of the place, in a system that has room in the header.
use Rattle.std.proofs.Common.{◌≡◌, ap, to_z-of_z}
use Rattle.sheet_types.specs.Matrix.{tile_ground}
use Rattle.view_export.specs.Exports.{drawn}
use Rattle.view_export.proofs.Systems.{fits_header, fits_word}
use Rattle.view_export.proofs.Texts.{ok_is}
use Rattle.view_export.proofs.lines.tile_outline.Goals as goal

pub ground_blob-requires : goal.ground_blob-requires
ground_blob-requires c = simp (to_z-of_z, fits_word c.args.frame.now c.requires)
    (fits_header c.args.frame.now c.requires)

pub returns : goal.returns
returns c =
    let f = c.args.frame.now in
    let at : c.ground-ground.result ≡ tile_ground f c.args.zoom c.args.column c.args.row =
    simp (to_z-of_z, c.ranges.zoom, c.ranges.column, c.ranges.row) at c.ground-ground.ensures in
    ok_is c.ground_blob.result _ _ (ap (drawn f.srs_id) at) (simp (to_z-of_z, fits_word f c.requires) at
    c.ground_blob.ensures)
