-- Frames, number by number. Profile.
use Rattle.std.specs.Prelude.{◌≡◌}
use Rattle.sheet_types.specs.declared.frame.Frame.{Frame}

-- one reference system and the same edges
abbrev pub HasGroundOf : Frame → Frame → Type 0
HasGroundOf f g = (f.srs_id ≡ g.srs_id) × (f.min_x ≡ g.min_x) × (f.min_y ≡ g.min_y) × (f.max_x ≡ g.max_x)
    × (f.max_y ≡ g.max_y)

-- the same tiles, zooms and matrix
abbrev pub HasTilesOf : Frame → Frame → Type 0
HasTilesOf f g = (f.tile_width ≡ g.tile_width) × (f.tile_height ≡ g.tile_height) × (f.first_zoom ≡ g.first_zoom)
    × (f.levels ≡ g.levels) × (f.matrix_width ≡ g.matrix_width) × (f.matrix_height ≡ g.matrix_height)
