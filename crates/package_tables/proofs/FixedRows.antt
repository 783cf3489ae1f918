-- The rows that the frame gives: its own reference system, and its levels, as they come in.
use Rattle.std.proofs.Common.{◌≡◌, ◌≢◌, ℕ, ℤ, pos, negsuc, ◌<◌, ◌+◌, List, [], ◌∷◌}
use Rattle.std.proofs.Common.{true, false, refl, sym, ◌∙◌, arith, map, unsigned_abs, ◌+ℤ◌, ◌≤ℤ◌}
use Rattle.std.proofs.Common.{zero, suc, ◌≤◌}
use Rattle.std.specs.Prelude.{◌||◌, bytes_eq}
use Rattle.std.specs.List.{AllByRecursion, range_with_len}
use Rattle.std.specs.Ordering.{int_eq, nat_cmp}
use Rattle.std.specs.declared.cmp.Ordering.{Ordering}
use Rattle.std.specs.declared.cmp.Ordering.TheVariants.{Less, Equal, Greater}
use Rattle.std.proofs.lemmas.Cmp.{ranked}
use Rattle.std.proofs.lemmas.List.FromFn.{map-range_with_len_more}
use Rattle.sheet_types.proofs.Order.{put_last}
use Rattle.sheet_types.proofs.Basics.{before-differs}
use Rattle.std.specs.Cmp.{signed_Decides}
use Rattle.std.proofs.lemmas.Bool.{true≢false, false_from_ne_true, or_parts}
use Rattle.std.proofs.lemmas.Slice.Eq.{bytes_eq-Decides}
use Rattle.std.proofs.lemmas.Int.{ints}
use Rattle.sheet_types.specs.Ordered.{put, has, is_before}
use Rattle.sheet_types.specs.declared.frame.Frame.{Frame}
use Rattle.package_tables.specs.Shapes.{spatial_ref_sys_shape, tile_matrix_shape, signed_key}
use Rattle.package_tables.specs.Fixed.{standard_systems, own_system, is_standard, systems_of, level_row, first_levels}

-- ---- the frame's own reference system

same_signed : (m n : ℤ) → signed_key m ≡ signed_key n → m ≡ n
same_signed (pos a) (pos b) e = cc
same_signed (negsuc a) (negsuc b) e = cc
same_signed (pos a) (negsuc b) e = absurd cc
same_signed (negsuc a) (pos b) e = absurd cc

other_key : (m n : ℤ) → n ≢ m → bytes_eq (signed_key m) (signed_key n) ≡ false
other_key m n differ = false_from_ne_true _ (λ e. differ (sym
    (same_signed m n ((bytes_eq-Decides (signed_key m) (signed_key n)).0 e))))

differs : (n m : ℤ) → int_eq n m ≡ false → n ≢ m
differs n m h = λ e. true≢false (sym ((signed_Decides n m).1 e) ∙ h)

pub own_free : (n : ℤ) → is_standard n ≡ false → has spatial_ref_sys_shape.key (signed_key n) standard_systems
    ≡ false
own_free n h =
    let last = or_parts (int_eq n (negsuc 0) || int_eq n (pos 0)) (int_eq n (pos 4326)) h in
    let first = or_parts (int_eq n (negsuc 0)) (int_eq n (pos 0)) last.0 in
    rw (
      other_key (negsuc 0) n (differs n (negsuc 0) first.0),
      other_key (pos 0) n (differs n (pos 0) first.1),
      other_key (pos 4326) n (differs n (pos 4326) last.1),
    ) refl

pub own_comes : (n : ℤ) → is_standard n ≡ false → put spatial_ref_sys_shape.key (own_system n)
    standard_systems ≡ systems_of n
own_comes n h = rw h refl

pub standard_suffices : (n : ℤ) → is_standard n ≡ true → systems_of n ≡ standard_systems
standard_suffices n h = rw h refl

-- ---- the levels

less : (m n : ℕ) → m < n → nat_cmp m n ≡ Less
less m n lt = one (nat_cmp m n) refl
  where
    one : (o : Ordering) → o ≡ nat_cmp m n → o ≡ Less
    one Less e = refl
    one Equal e = absurd (omega (arith, ranked m n Equal e))
    one Greater e = absurd (omega (arith, ranked m n Greater e))

above_first : (z : ℤ) (a k : ℕ) → pos 0 ≤ℤ z → a < k → unsigned_abs (z +ℤ pos a) < unsigned_abs
    (z +ℤ pos k)
above_first (pos z) a k low lt = omega (arith, ints)
above_first (negsuc z) a k low lt = absurd (omega (arith, ints, low))

-- a level comes after all those above it
earlier : (f : Frame) (k a n : ℕ) → pos 0 ≤ℤ f.first_zoom → a + n ≤ k
    → AllByRecursion (λ y. is_before (tile_matrix_shape.key y)
    (tile_matrix_shape.key (level_row f (f.first_zoom +ℤ pos k))) ≡ true)
    (map (λ j. level_row f (f.first_zoom +ℤ pos j)) (range_with_len a n))
earlier f k a zero low few = tt
earlier f k a (suc n) low few = (
  rw (less (unsigned_abs (f.first_zoom +ℤ pos a)) (unsigned_abs (f.first_zoom +ℤ pos k))
      (above_first f.first_zoom a k low (omega arith))) refl,
  earlier f k (a + 1) n low (omega arith),
)

none_has : {X : Type 0} (key : X → List ℕ) (x : X) (xs : List X)
    → AllByRecursion (λ y. is_before (key y) (key x) ≡ true) xs → has key (key x) xs ≡ false
none_has key x [] h = refl
none_has key x (y ∷ ys) h = rw (before-differs (key y) (key x) h.0) (none_has key x ys h.1)

pub level_free : (f : Frame) (k : ℕ) → pos 0 ≤ℤ f.first_zoom
    → has tile_matrix_shape.key (tile_matrix_shape.key (level_row f (f.first_zoom +ℤ pos k))) (first_levels f k)
    ≡ false
level_free f k low = none_has tile_matrix_shape.key (level_row f (f.first_zoom +ℤ pos k)) (first_levels f k)
    (earlier f k 0 k low (omega arith))

pub level_comes : (f : Frame) (k : ℕ) → pos 0 ≤ℤ f.first_zoom
    → put tile_matrix_shape.key (level_row f (f.first_zoom +ℤ pos k)) (first_levels f k)
    ≡ first_levels f (k + 1)
level_comes f k low = put_last tile_matrix_shape.key (level_row f (f.first_zoom +ℤ pos k)) (first_levels f k)
    (earlier f k 0 k low (omega arith)) ∙ sym (map-range_with_len_more (λ j. level_row f (f.first_zoom +ℤ pos j))
    0 k k (omega arith))
