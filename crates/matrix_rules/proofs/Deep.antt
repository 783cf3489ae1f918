-- How deep the levels of a good frame go.
use Rattle.std.proofs.Common.{ℕ, ℤ, pos, negsuc, ◌<◌, arith, unsigned_abs, ◌+ℤ◌, ◌≤ℤ◌, ◌<ℤ◌}
use Rattle.std.proofs.lemmas.Int.{ints}
use Rattle.sheet_types.specs.declared.frame.Frame.{Frame}
use Rattle.matrix_rules.proofs.Frames.{GoodFrame}

-- how far below the first a level of the frame lies
pub small_level : (f : Frame) (k : ℕ) → GoodFrame f → k < unsigned_abs f.levels → (k < 21)
    × ((f.first_zoom +ℤ pos k) <ℤ (f.first_zoom +ℤ f.levels)) × ((f.first_zoom +ℤ pos k) ≤ℤ pos 21)
small_level f k good lt = few f.first_zoom f.levels good.first_zoom good.levels good.zooms lt
  where
    few : (z l : ℤ) → pos 0 ≤ℤ z → pos 1 ≤ℤ l → (z +ℤ l) ≤ℤ pos 21 → k < unsigned_abs l
        → (k < 21) × ((z +ℤ pos k) <ℤ (z +ℤ l)) × ((z +ℤ pos k) ≤ℤ pos 21)
    few (pos z) (pos l) low some most lt = (
      omega (arith, ints, most, lt),
      omega (arith, ints, lt),
      omega
          (arith, ints, most, lt),
    )
    few (negsuc z) l low some most lt = absurd (omega (arith, ints, low))
    few (pos z) (negsuc l) low some most lt = absurd (omega (arith, ints, some))
