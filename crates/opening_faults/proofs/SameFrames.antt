-- Eleven numbers that agree are one frame.
use Rattle.std.specs.Prelude.{◌≡◌}
use Rattle.std.proofs.Common.{ap}
use Rattle.sheet_types.specs.declared.frame.Frame.{Frame}
use Rattle.opening_faults.specs.Frames.{HasGroundOf, HasTilesOf}

pub one_frame : (f g : Frame) → HasGroundOf f g → HasTilesOf f g → f ≡ g
one_frame f g a b = λ n. record {
  srs_id = a.0 n;
  min_x = a.1 n;
  min_y = a.2 n;
  max_x = a.3 n;
  max_y = a.4 n;
  tile_width = b.0 n;
  tile_height = b.1 n;
  first_zoom = b.2 n;
  levels = b.3 n;
  matrix_width = b.4 n;
  matrix_height = b.5 n;
}

pub ground_of : (f g : Frame) → f ≡ g → HasGroundOf f g
ground_of f g e = (
  ap (λ x. x.srs_id) e,
  ap (λ x. x.min_x) e,
  ap (λ x. x.min_y) e,
  ap (λ x. x.max_x) e,
  ap
      (λ x. x.max_y) e,
)

pub tiles_of : (f g : Frame) → f ≡ g → HasTilesOf f g
tiles_of f g e = (
  ap (λ x. x.tile_width) e,
  ap (λ x. x.tile_height) e,
  ap (λ x. x.first_zoom) e,
  ap (λ x. x.levels) e,
  ap (λ x. x.matrix_width) e,
  ap (λ x. x.matrix_height) e,
)
