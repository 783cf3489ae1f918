-- The zooms that a map draws, and where a sheet stands in one. Numbers stay within 64 bits. Profile.
use Rattle.std.specs.Prelude.{ℕ, ◌+◌, ◌-◌, ◌*◌, ◌/◌, ◌^◌, ◌==◌, nat_lt, min, List, []}
use Rattle.std.specs.Prelude.{◌∷◌, Option, Some, None}
use Rattle.std.specs.Prelude.{if◌then◌else◌, ℤ, pos, ◌+ℤ◌, ◌-ℤ◌, slice_index_or, unsigned_abs}
use Rattle.sheet_types.specs.declared.frame.Frame.{Frame}
use Rattle.view_map.specs.Layout.{layout_of}
use Rattle.view_map.specs.Zooms.{default_zoom}
use Rattle.view_map.specs.declared.layout.Layout.{Layout}
use Rattle.view_report.specs.declared.levels.Level.{Level}

abbrev pub times : ℕ → ℕ → ℕ
times a b = min (a * b) (2 ^ 64 - 1)

abbrev pub plus : ℕ → ℕ → ℕ
plus a b = min (a + b) (2 ^ 64 - 1)

-- a part of a whole in ten-thousandths
abbrev pub share : ℕ → ℕ → ℕ
share part whole = if whole == 0 then 0 else times part 10000 / whole

-- how many places of a finer zoom are as wide as one place
abbrev pub power_of : ℕ → ℕ
power_of finer = slice_index_or (1 ∷ 2 ∷ 4 ∷ 8 ∷ 16 ∷ 32 ∷ []) finer 64

-- how far a sheet stands inside its place, in hundredths of a unit
abbrev pub inset_of : Level → ℕ → ℕ
inset_of l layer = plus 75 (plus (times 100 l.index) (times 150 layer)) / power_of l.finer

-- where a sheet begins along a side, and how far it reaches
abbrev pub start : ℕ → ℕ → ℕ → ℕ
start place side inset = plus (times 100 (times place side)) inset

abbrev pub extent : ℕ → ℕ → ℕ
extent side inset = times 100 side - times 2 inset

-- by which a pattern has the same size at each zoom
abbrev pub scale_of : Layout → ℕ
scale_of l = times 5 (times l.columns l.width) / 28

-- how many zooms are drawn
abbrev pub level_total : Frame → ℕ
level_total f = plus (unsigned_abs (default_zoom f -ℤ f.first_zoom)) 1

abbrev pub level_of : Frame → ℕ → ℕ → ℤ → Level
level_of f total index zoom = record {
  index = index;
  finer = total - plus index 1;
  zoom = zoom;
  layout = layout_of f zoom;
}

-- the zoom with so many coarser ones
abbrev pub level_at : Frame → ℕ → ℕ → Option Level
level_at f total index = if nat_lt index (unsigned_abs f.levels) then Some
    (level_of f total index (f.first_zoom +ℤ pos index)) else None
