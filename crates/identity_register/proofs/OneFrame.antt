-- The fixed rows are those of one frame.
use Rattle.std.proofs.Common.{◌≡◌, ℕ, zero, suc, ◌+◌, ◌<◌, ◌^◌, ℤ, pos, negsuc, ◌+ℤ◌}
use Rattle.std.proofs.Common.{◌-ℤ◌, ◌*ℤ◌, ◌≤ℤ◌, List, ◌∷◌}
use Rattle.std.proofs.Common.{map, true, refl, sym, ap, ◌∙◌, length, arith}
use Rattle.std.specs.Prelude.{unsigned_abs}
use Rattle.std.specs.List.{range_with_len}
use Rattle.std.proofs.lemmas.Int.{ints}
use Rattle.matrix_rules.proofs.Frames.{good_frame}
use Rattle.sheet_types.specs.Matrix.{is_good_frame, width_at, height_at, level_of}
use Rattle.sheet_types.specs.declared.frame.Frame.{Frame}
use Rattle.package_tables.specs.Fixed.{HasFixed, matrix_set, level_row, first_levels}
use Rattle.package_tables.specs.Package.{Tables}

-- as many as were counted
counted : {X : Type 0} (f : ℕ → X) (a n : ℕ) → length (map f (range_with_len a n)) ≡ n
counted f a zero = refl
counted f a (suc n) = ap suc (counted f (a + 1) n)

-- the first level is that of the frame's own size
own_level : (z : ℤ) → unsigned_abs ((z +ℤ pos 0) -ℤ z) ≡ 0
own_level z = let none : (z +ℤ pos 0) -ℤ z ≡ pos 0 = omega (arith, ints) in ap unsigned_abs none

once : (w : ℤ) → w *ℤ pos 1 ≡ w
once w = omega (arith, ints)

own_width : (f : Frame) → width_at f (level_of f (f.first_zoom +ℤ pos 0)) ≡ f.matrix_width
own_width f = ap (λ k. f.matrix_width *ℤ pos (2 ^ k)) (own_level f.first_zoom) ∙ once f.matrix_width

own_height : (f : Frame) → height_at f (level_of f (f.first_zoom +ℤ pos 0)) ≡ f.matrix_height
own_height f = ap (λ k. f.matrix_height *ℤ pos (2 ^ k)) (own_level f.first_zoom) ∙ once f.matrix_height

pub head_same : {X : Type 0} {x y : X} {xs ys : List X} → x ∷ xs ≡ y ∷ ys → x ≡ y
head_same e = cc

-- levels that are the same have the same first one
first_same : (f g : Frame) (m n : ℕ) → 0 < m → 0 < n → first_levels f m ≡ first_levels g n
    → level_row f (f.first_zoom +ℤ pos 0) ≡ level_row g (g.first_zoom +ℤ pos 0)
first_same f g zero n h k e = absurd (omega arith)
first_same f g (suc m) zero h k e = absurd (omega arith)
first_same f g (suc m) (suc n) h k e = head_same e

some_levels : (f : Frame) → is_good_frame f ≡ true → pos 1 ≤ℤ f.levels
some_levels f good = (good_frame f good).levels

pub one_frame : (f g : Frame) (t : Tables) → is_good_frame f ≡ true → is_good_frame g ≡ true → HasFixed f t
    → HasFixed g t → f ≡ g
one_frame f g t good_f good_g one two =
    let set : matrix_set f ≡ matrix_set g = head_same (sym one.tile_matrix_set ∙ two.tile_matrix_set) in
    let rows : first_levels f (unsigned_abs f.levels) ≡ first_levels g (unsigned_abs g.levels) =
    sym one.tile_matrix ∙ two.tile_matrix in
    let some_f = some_levels f good_f in
    let some_g = some_levels g good_g in
    let count : unsigned_abs f.levels ≡ unsigned_abs g.levels =
    sym (counted (λ k. level_row f (f.first_zoom +ℤ pos k)) 0 (unsigned_abs f.levels)) ∙ ap length rows
    ∙ counted (λ k. level_row g (g.first_zoom +ℤ pos k)) 0 (unsigned_abs g.levels) in
    let levels : f.levels ≡ g.levels = positive f.levels g.levels some_f some_g count in
    let row = first_same f g (unsigned_abs f.levels) (unsigned_abs g.levels) (above f.levels some_f)
    (above g.levels some_g) rows in
    let zoom_plus : (f.first_zoom +ℤ pos 0) ≡ (g.first_zoom +ℤ pos 0) = ap (λ r. r.zoom_level) row in
    let zoom : f.first_zoom ≡ g.first_zoom = omega (arith, ints) in
    let width : f.matrix_width ≡ g.matrix_width = sym (own_width f) ∙ ap (λ r. r.matrix_width) row
    ∙ own_width g in
    let height : f.matrix_height ≡ g.matrix_height = sym (own_height f) ∙ ap (λ r. r.matrix_height) row
    ∙ own_height g in
    let tile_width : f.tile_width ≡ g.tile_width = ap (λ r. r.tile_width) row in
    let tile_height : f.tile_height ≡ g.tile_height = ap (λ r. r.tile_height) row in
    λ n. record {
      srs_id = (set n).srs_id;
      min_x = (set n).min_x;
      min_y = (set n).min_y;
      max_x = (set n).max_x;
      max_y = (set n).max_y;
      tile_width = tile_width n;
      tile_height = tile_height n;
      first_zoom = zoom n;
      levels = levels n;
      matrix_width = width n;
      matrix_height = height n;
    }
  where
    positive : (a b : ℤ) → pos 1 ≤ℤ a → pos 1 ≤ℤ b → unsigned_abs a ≡ unsigned_abs b → a ≡ b
    positive (pos a) (pos b) h k e = ap pos e
    positive (pos a) (negsuc b) h k e = absurd (omega (arith, ints))
    positive (negsuc a) b h k e = absurd (omega (arith, ints))

    above : (a : ℤ) → pos 1 ≤ℤ a → 0 < unsigned_abs a
    above (pos a) h = omega (arith, ints)
    above (negsuc a) h = absurd (omega (arith, ints))
