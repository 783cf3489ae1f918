-- What a place in the first column says of its row.
use Rattle.std.proofs.Common.{◌≡◌, ◌&&◌, true, arith, ℤ, pos, ◌≤ℤ◌, ◌<ℤ◌, sym, subst}
use Rattle.std.specs.Prelude.{int_le, int_lt}
use Rattle.std.proofs.lemmas.Int.{ints}
use Rattle.sheet_types.specs.declared.frame.Frame.{Frame}
use Rattle.sheet_types.specs.Matrix.{has_level, has_place, height_at, level_of, width_at}
use Rattle.matrix_rules.proofs.Frames.{three}

pub record IsPlaced (f : Frame) (zoom row : ℤ) : Type 0 where
  pub level : has_level f zoom ≡ true
  pub from_top : pos 0 ≤ℤ row
  pub to_bottom : row <ℤ height_at f (level_of f zoom)

pub placed : (f : Frame) (zoom row : ℤ) → has_place f zoom (pos 0) row ≡ true → IsPlaced f zoom row
placed f zoom row h =
    let last = three (has_level f zoom && int_le (pos 0) (pos 0) && int_lt (pos 0) (width_at f (level_of f zoom)))
    (int_le (pos 0) row) (int_lt row (height_at f (level_of f zoom))) h in
    let first = three (has_level f zoom) (int_le (pos 0) (pos 0)) (int_lt (pos 0) (width_at f (level_of f zoom)))
    last.0 in
    record {
      level = first.0;
      from_top = omega (arith, ints, last.1);
      to_bottom = omega (arith, ints, last.2);
    }

-- ---- the row is one of the axis

few : (tiles row height : ℤ) → row <ℤ height → tiles ≡ height → row <ℤ tiles
few tiles row height less is = subst (λ t. row <ℤ t) (sym is) less

pub on_axis : (f : Frame) (zoom row tiles : ℤ) → IsPlaced f zoom row → tiles ≡ height_at f (level_of f zoom)
    → (pos 1 ≤ℤ tiles) × (tiles ≤ℤ pos 2000000000000) → (pos 0 ≤ℤ row) × (row <ℤ tiles)
    × (tiles ≤ℤ pos 2000000000000)
on_axis f zoom row tiles it is range = (it.from_top, few tiles row _ it.to_bottom is, range.1)
