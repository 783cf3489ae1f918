-- The levels of a frame row by row, and the one frame that a tile matrix set and the rows of its levels may be of.
use Rattle.std.proofs.Common.{◌≡◌, ◌≤◌, ◌<◌, ◌+◌, ℕ, ℤ, pos, negsuc, ◌≤ℤ◌, ◌+ℤ◌}
use Rattle.std.proofs.Common.{◌-ℤ◌, ◌*ℤ◌, List, [], ◌∷◌, ◌++◌}
use Rattle.std.proofs.Common.{length, take, get_or, Bool, refl, sym, ap, subst, ◌∙◌, arith, IsTrue, unsigned_abs}
use Rattle.std.proofs.Common.{FitsSigned, w64, to_z}
use Rattle.std.specs.Prelude.{◌↔◌, ◌&&◌, ◌^◌}
use Rattle.std.proofs.lemmas.Int.{ints}
use Rattle.std.proofs.lemmas.List.{take_more, take_all, same_from_push}
use Rattle.std.proofs.lemmas.List.FromFn.{length-map-range_with_len, map-range_with_len_more, get_or-map-range_with_len}
use Rattle.sheet_types.specs.Matrix.{is_good_frame}
use Rattle.sheet_types.specs.declared.frame.Frame.{Frame}
use Rattle.matrix_rules.proofs.Frames.{good_frame}
use Rattle.package_tables.specs.Fixed.{matrix_set, level_row, first_levels, levels_of}
use Rattle.package_tables.specs.declared.rows.TileMatrixRow.{TileMatrixRow}
use Rattle.package_tables.specs.declared.rows.TileMatrixSetRow.{TileMatrixSetRow}
use Rattle.package_schema.specs.Frames.{same_level, same_set}
use Rattle.package_schema.proofs.Agreeing.{agree_level, agree_set, same_z}
use Rattle.store_sql.proofs.Both.{two}

-- ---- one level more

pub one_more : (f : Frame) (rows : List TileMatrixRow) (at : ℕ) (row : TileMatrixRow) (zoom : ℤ) (are here : Bool)
    → at < length rows → row ≡ get_or rows at row → zoom ≡ f.first_zoom +ℤ pos at
    → here ≡ same_level row (level_row f zoom)
    → (IsTrue are ↔ (take at rows ≡ first_levels f at)) → IsTrue (are && here) ↔
    (take (at + 1) rows ≡ first_levels f (at + 1))
one_more f rows at row zoom are here within is level same before =
    let next = level_row f (f.first_zoom +ℤ pos at) in
    let whole : take (at + 1) rows ≡ take at rows ++ row ∷ [] =
    take_more rows at row within ∙ ap (λ r. take at rows ++ r ∷ []) (sym is) in
    let levels : first_levels f (at + 1) ≡ first_levels f at ++ next ∷ [] =
    map-range_with_len_more (λ j. level_row f (f.first_zoom +ℤ pos j)) 0 at at (omega arith) in
    let last : IsTrue here ↔ (row ≡ next) = subst (λ z. IsTrue here ↔ (row ≡ level_row f z)) level
    (subst (λ b. IsTrue b ↔ (row ≡ level_row f zoom)) (sym same) (agree_level row (level_row f zoom))) in
    let both = two are here before last in (
      λ yes. let h = both.0 yes in whole ∙ ap (λ l. l ++ row ∷ []) h.0
          ∙ ap (λ r. first_levels f at ++ r ∷ []) h.1
          ∙ sym levels,
      λ e. both.1 (same_from_push (take at rows) (first_levels f at) row next (sym whole ∙ e ∙ levels)),
    )

-- as many rows as levels
pub all_levels : (f : Frame) (rows : List TileMatrixRow) (n : ℕ) (are : Bool) → n ≡ length rows
    → length rows ≡ unsigned_abs f.levels → (IsTrue are ↔ (take n rows ≡ first_levels f n))
    → IsTrue are ↔ (rows ≡ levels_of f)
all_levels f rows n are long count so =
    let all : take n rows ≡ rows = take_all n rows (omega (arith, long)) in
    let levels : first_levels f n ≡ levels_of f = ap (first_levels f) (long ∙ count) in
    (λ yes. sym all ∙ so.0 yes ∙ levels, λ e. so.1 (all ∙ e ∙ sym levels))

pub levels_long : (f : Frame) → length (levels_of f) ≡ unsigned_abs f.levels
levels_long f = length-map-range_with_len (λ j. level_row f (f.first_zoom +ℤ pos j)) 0 (unsigned_abs f.levels)

-- one row is the frame's set
pub one_set : (rows : List TileMatrixSetRow) (row s : TileMatrixSetRow) (is : Bool) → length rows ≡ 1
    → row ≡ get_or rows 0 row → is ≡ same_set row s → IsTrue is ↔ (rows ≡ s ∷ [])
one_set [] row s is one at same = absurd (omega (arith, one))
one_set (r ∷ []) row s is one at same =
    let agree = agree_set row s in (
      λ yes. ap (λ x. x ∷ []) (sym at ∙ agree.0 (sym same ∙ yes)),
      λ e. same
          ∙ agree.1 (at ∙ ap (λ l. get_or l 0 row) e),
    )
one_set (r ∷ q ∷ rows) row s is one at same = absurd (omega (arith, one))

-- ---- the candidate

pub counted : (n : ℕ) → n ≤ 21 → to_z w64 n ≡ pos n
counted n few = let fits : FitsSigned w64 (pos n) = omega (arith, ints, few) in same_z (pos n) fits

same_zoom : (z : ℤ) → z +ℤ pos 0 ≡ z
same_zoom z = omega (arith, ints)

no_way : (z : ℤ) → unsigned_abs (z -ℤ z) ≡ 0
no_way z = ap unsigned_abs (let e : z -ℤ z ≡ pos 0 = omega (arith, ints) in e)

once : (m : ℤ) (k : ℕ) → k ≡ 0 → m *ℤ pos (2 ^ k) ≡ m
once m k e = ap (λ j. m *ℤ pos (2 ^ j)) e ∙ (let it : m *ℤ pos 1 ≡ m = omega (arith, ints) in it)

pub all_counted : (n : ℕ) (z : ℤ) → pos 1 ≤ℤ z → n ≡ unsigned_abs z → pos n ≡ z
all_counted n (pos k) low e = ap pos e
all_counted n (negsuc k) low e = absurd (omega (arith, ints, low))

-- a good frame is what its tile matrix set and the first of its levels say
pub candidate_is : (f : Frame) → IsTrue (is_good_frame f) → (sets : List TileMatrixSetRow)
    (levels : List TileMatrixRow) (s : TileMatrixSetRow) (m : TileMatrixRow) → sets ≡ matrix_set f ∷ []
    → levels ≡ levels_of f
    → s ≡ get_or sets 0 s → m ≡ get_or levels 0 m
    → record {
      srs_id = s.srs_id;
      min_x = s.min_x;
      min_y = s.min_y;
      max_x = s.max_x;
      max_y = s.max_y;
      tile_width = m.tile_width;
      tile_height = m.tile_height;
      first_zoom = m.zoom_level;
      levels = pos (length levels);
      matrix_width = m.matrix_width;
      matrix_height = m.matrix_height;
    } ≡ f
candidate_is f good sets levels s m one all at first =
    let g = good_frame f good in
    let some : 0 < unsigned_abs f.levels = some_level f.levels g.levels in
    let set : s ≡ matrix_set f = at ∙ ap (λ l. get_or l 0 s) one in
    let row : m ≡ level_row f f.first_zoom = first ∙ ap (λ l. get_or l 0 m) all
    ∙ get_or-map-range_with_len (λ j. level_row f (f.first_zoom +ℤ pos j)) 0 (unsigned_abs f.levels) 0 0 m
    some refl ∙ ap (level_row f) (same_zoom f.first_zoom) in
    let long : pos (length levels) ≡ f.levels = all_counted (length levels) f.levels g.levels
    (ap length all ∙ levels_long f) in
    let way = no_way f.first_zoom in
    let width : m.matrix_width ≡ f.matrix_width = ap (λ (r : TileMatrixRow). r.matrix_width) row
    ∙ once f.matrix_width _ way in
    let height : m.matrix_height ≡ f.matrix_height = ap (λ (r : TileMatrixRow). r.matrix_height) row
    ∙ once f.matrix_height _ way in
    λ n. record {
      srs_id = (set n).srs_id;
      min_x = (set n).min_x;
      min_y = (set n).min_y;
      max_x = (set n).max_x;
      max_y = (set n).max_y;
      tile_width = (row n).tile_width;
      tile_height = (row n).tile_height;
      first_zoom = (row n).zoom_level;
      levels = long n;
      matrix_width = width n;
      matrix_height = height n;
    }
  where
    some_level : (z : ℤ) → pos 1 ≤ℤ z → 0 < unsigned_abs z
    some_level (pos k) low = omega (arith, ints, low)
    some_level (negsuc k) low = absurd (omega (arith, ints, low))

-- a good frame has 1 to 21 levels
pub level_numbers : (f : Frame) → IsTrue (is_good_frame f) → (levels : List TileMatrixRow)
    → levels ≡ levels_of f
    → (1 ≤ length levels) × (length levels ≤ 21)
level_numbers f good levels all =
    let g = good_frame f good in
    let long : length levels ≡ unsigned_abs f.levels = ap length all ∙ levels_long f in
    bounds f.first_zoom f.levels (length levels) g.first_zoom g.levels g.zooms long
  where
    bounds : (z l : ℤ) (n : ℕ) → pos 0 ≤ℤ z → pos 1 ≤ℤ l → (z +ℤ l) ≤ℤ pos 21
        → n ≡ unsigned_abs l → (1 ≤ n) × (n ≤ 21)
    bounds (pos a) (pos b) n low some most e = (omega (arith, ints, some, most, e), omega (arith, ints, some, most, e))
    bounds (pos a) (negsuc b) n low some most e = absurd (omega (arith, ints, some))
    bounds (negsuc a) l n low some most e = absurd (omega (arith, ints, low))
