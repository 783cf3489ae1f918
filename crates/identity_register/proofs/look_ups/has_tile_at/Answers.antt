-- A tile row is at the place where a tile of the package is.
use Rattle.std.proofs.Common.{◌∙◌}
use Rattle.std.proofs.lemmas.Int.{to_z-of_z}
use Rattle.identity_register.proofs.Looking.{looked, sees}
use Rattle.identity_register.proofs.Answering.{HasTileAt, tiles_at}
use Rattle.identity_register.proofs.look_ups.has_tile_at.Goals as goal

pub returns : goal.returns
returns g c =
    let zoom = c.ranges.zoom in
    let column = c.ranges.column in
    let row = c.ranges.row in
    sees (looked (HasTileAt c.args.zoom c.args.column c.args.row) c.in_ok-found.was
    (simp to_z-of_z at c.has_tile_at.ensures))
    (λ f p t says found. found ∙ tiles_at f p t says c.args.zoom c.args.column c.args.row)
