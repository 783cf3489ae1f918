-- Which zoom is drawn where none is asked for. Profile.
use Rattle.std.specs.Prelude.{ℕ, zero, suc, ◌*◌, Bool, nat_le, if◌then◌else◌, ℤ, pos, ◌+ℤ◌}
use Rattle.std.specs.Prelude.{unsigned_abs}
use Rattle.sheet_types.specs.declared.frame.Frame.{Frame}
use Rattle.sheet_types.specs.Matrix.{width_at, height_at}

-- at most 10,000 places at so many levels below the first
abbrev pub is_small : Frame → ℕ → Bool
is_small f level = nat_le (unsigned_abs (width_at f level) * unsigned_abs (height_at f level)) 10000

-- the finest of the first n levels that is small, or the first where none is
unfoldable pub finest_small : Frame → ℕ → ℕ
finest_small f zero = 0
finest_small f (suc n) = if is_small f n then n else finest_small f n

-- the finest zoom that is small, or the first where none is
abbrev pub default_zoom : Frame → ℤ
default_zoom f = f.first_zoom +ℤ pos (finest_small f (unsigned_abs f.levels))
