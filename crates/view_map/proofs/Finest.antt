-- Walking up from the finest zoom.
use Rattle.std.specs.Prelude.{◌≡◌, ℕ, suc, ◌-◌, ◌*◌, ◌<◌, ◌≤◌, nat_le, true, false, refl}
use Rattle.std.specs.Prelude.{ℤ, pos, negsuc, ◌+ℤ◌, ◌-ℤ◌}
use Rattle.std.specs.Prelude.{◌≤ℤ◌, unsigned_abs}
use Rattle.std.proofs.Common.{arith, ◌∙◌, ap}
use Rattle.std.proofs.lemmas.Int.{ints}
use Rattle.sheet_types.specs.declared.frame.Frame.{Frame}
use Rattle.sheet_types.specs.Matrix.{level_of}
use Rattle.view_map.specs.Layout.{layout_of}
use Rattle.view_map.specs.declared.layout.Layout.{Layout}
use Rattle.view_map.specs.Zooms.{finest_small, is_small}

-- how far below the first a level lies
pub level_below : (first : ℤ) (k : ℕ) → unsigned_abs ((first +ℤ pos k) -ℤ first) ≡ k
level_below first k = let same : ((first +ℤ pos k) -ℤ first) ≡ pos k = omega (arith, ints) in ap unsigned_abs same

-- whether a level is small, by its layout
pub small_by_layout : (f : Frame) (level : ℕ) (zoom : ℤ) (l : Layout) → l ≡ layout_of f zoom
    → zoom ≡ f.first_zoom +ℤ pos level → nat_le (l.columns * l.rows) 10000 ≡ is_small f level
small_by_layout f level zoom l same is =
    let deep : level_of f zoom ≡ level = ap (level_of f) is ∙ level_below f.first_zoom level in
    ap (λ (x : Layout). nat_le (x.columns * x.rows) 10000) same ∙ ap (is_small f) deep

-- the level above is small, and so it is the finest that is
small_here : (f : Frame) (k : ℕ) → is_small f k ≡ true → k ≡ finest_small f (suc k)
unfolding finest_small
small_here f k small = rw small refl

pub small_below : (f : Frame) (level : ℕ) → 0 < level → is_small f (level - 1) ≡ true
    → level - 1 ≡ finest_small f level
small_below f level some small = small_here f (level - 1) small ∙ ap (finest_small f) (omega arith)

-- it is not, and so the finest that is lies above
large_here : (f : Frame) (k : ℕ) → is_small f k ≡ false → finest_small f (suc k) ≡ finest_small f k
unfolding finest_small
large_here f k large = rw large refl

pub large_below : (f : Frame) (level : ℕ) → 0 < level → is_small f (level - 1) ≡ false
    → finest_small f level ≡ finest_small f (level - 1)
large_below f level some large = let up : level ≡ suc (level - 1) =
    omega arith in ap (finest_small f) up ∙ large_here f (level - 1) large

-- none is
pub none_small : (f : Frame) (level : ℕ) → level ≤ 0 → finest_small f level ≡ 0
unfolding finest_small
none_small f level low = let none : level ≡ 0 = omega arith in ap (finest_small f) none

-- a good frame has some level
pub some_levels : (z : ℤ) → pos 1 ≤ℤ z → 0 < unsigned_abs z
some_levels (pos n) low = omega (arith, ints, low)
some_levels (negsuc n) low = absurd (omega (arith, ints, low))
