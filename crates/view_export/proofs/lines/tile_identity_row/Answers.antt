use Rattle.std.proofs.Common.{◌≡◌, refl, to_z-of_z}
use Rattle.std.specs.Prelude.{string_bytes}
use Rattle.view_export.specs.Exports.{place}
use Rattle.view_export.proofs.Texts.{ok_is}
use Rattle.view_export.proofs.lines.tile_identity_row.Goals as goal

pub returns : goal.returns
returns c =
    let at : string_bytes c.in_ok-place.place ≡ place c.args.zoom c.args.column c.args.row =
    simp (to_z-of_z, c.ranges.zoom, c.ranges.column, c.ranges.row) at c.in_ok-place.ensures in
    ok_is c.format.result _ _ (rw at refl) c.format.ensures.ok
